-- What lifts a flag: a clear of that flag (by document 01's number) and id that is taken. And that no event of a history does.
use Rattle.std.specs.Prelude.{ℕ, Bool, true, false, ◌&&◌, List, [], ◌∷◌, ◌≡◌, eqb, Ok, Err}
use Rattle.record.specs.declared.Record.{Record}
use Rattle.record.specs.Meaning.{Reading}
use Rattle.record.specs.Meaning.{of_clear}
use Rattle.verdict.specs.Meaning.{Verdict}
use Rattle.verdict.specs.Meaning.{Refused, Taken, Passed, Dropped}
use Rattle.promises.specs.Meaning.{Event}

abbrev pub taken_in : Verdict → Bool
taken_in (Refused why) = false
taken_in Taken = true
taken_in (Passed p) = false
taken_in (Dropped d) = false

abbrev pub clear_in : ℕ → ℕ → Record → Bool
clear_in flag i = of_clear (λ r. eqb r.flag flag && eqb r.id i) false

abbrev pub clear_by : ℕ → ℕ → Reading → Verdict → Bool
clear_by flag i (Err why) v = false
clear_by flag i (Ok (r, used)) v = clear_in flag i r && taken_in v

abbrev pub clears : ℕ → ℕ → Event → Bool
clears flag i e = clear_by flag i e.reading e.verdict

-- the test holds of no event
abbrev pub Never : (Event → Bool) → List Event → Type 0
Never test [] = Unit {0}
Never test (e ∷ es) = (test e ≡ false) × Never test es
