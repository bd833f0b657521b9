-- An input of many records: the answers to them one after another, how it ends, and what is counted and printed of the answers.
use Rattle.std.specs.Prelude.{◌≡◌, ℕ, ◌+◌, ◌%◌, ◌^◌, Bool, cond, ◌≢◌, List, [], ◌∷◌, ◌++◌, drop}
use Rattle.record.specs.declared.Refusal.{Refusal}
use Rattle.verdict.specs.Meaning.{Verdict, Refused, Taken, Passed, Dropped, Answer}
use Rattle.stage.specs.Meaning.{Bridge, Took, take_of}
use Rattle.text.specs.Meaning.{pass_line_of, drop_line_of}

abbrev pub NoRefusal : Verdict → Type 0
NoRefusal v = (why : Refusal) → v ≢ Refused why

-- from the bridge b on, records at the front of the octets s are taken with these answers; they leave that bridge and the octets `rest`
pub data Front : Bridge → List ℕ → List Answer → Bridge → List ℕ → Type 0 where
  begins : {b : Bridge} {s : List ℕ} → Front b s [] b s
  takes : {b b' : Bridge} {s rest : List ℕ} {answers : List Answer} (o : Took) → take_of b s ≡ o → NoRefusal o.answer.verdict
      → Front o.after (drop o.answer.used s) answers b' rest → Front b s (o.answer ∷ answers) b' rest

-- and a refusal ends them, with the octets `rest` not taken
pub record Input (b : Bridge) (s : List ℕ) (answers : List Answer) (b' : Bridge) (rest : List ℕ) (why : Refusal) : Type 0 where
  pub front : Front b s answers b' rest
  pub refused : (take_of b' rest).answer.verdict ≡ Refused why

-- ---- what is counted of the answers

-- the octets of the records
abbrev pub used_in : List Answer → ℕ
used_in [] = 0
used_in (a ∷ answers) = a.used + used_in answers

-- 1 for an arrival
abbrev pub arrival_in : Verdict → ℕ
arrival_in (Refused r) = 0
arrival_in Taken = 0
arrival_in (Passed p) = 1
arrival_in (Dropped d) = 1

abbrev pub arrivals_in : List Answer → ℕ
arrivals_in [] = 0
arrivals_in (a ∷ answers) = arrival_in a.verdict + arrivals_in answers

-- ---- what is printed of them: a line for an arrival, numbered after the `arrivals` before it; none where nothing is to be told of arrivals

abbrev pub verdict_line_of : ℕ → Verdict → List ℕ
verdict_line_of arrivals (Refused r) = []
verdict_line_of arrivals Taken = []
verdict_line_of arrivals (Passed p) = pass_line_of ((arrivals + 1) % 2 ^ 64) p
verdict_line_of arrivals (Dropped d) = drop_line_of ((arrivals + 1) % 2 ^ 64) d

unfoldable pub lines_of : ℕ → List Answer → List ℕ
lines_of arrivals [] = []
lines_of arrivals (a ∷ answers) = verdict_line_of arrivals a.verdict ++ lines_of (arrivals + arrival_in a.verdict) answers

abbrev pub told_of : Bool → ℕ → List Answer → List ℕ
told_of quiet arrivals answers = cond quiet [] (lines_of arrivals answers)
