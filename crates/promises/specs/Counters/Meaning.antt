-- What each counter of document 01 counts: a plain predicate on what a call did, and the count over a history.
use Rattle.std.specs.Prelude.{ℕ, ◌+◌, Bool, true, false, not, cond, ◌&&◌, ◌||◌, List, [], ◌∷◌, eqb, Ok, Err, None, Some}
use Rattle.record.specs.declared.Record.{Record}
use Rattle.record.specs.Meaning.{Reading}
use Rattle.record.specs.Meaning.{of_arrival}
use Rattle.filter.specs.Meaning.{Found}
use Rattle.verdict.specs.Meaning.{Verdict}
use Rattle.verdict.specs.Meaning.{Refused, Taken, Passed, Dropped}
use Rattle.verdict.specs.Meaning.{drop_number_of}
use Rattle.promises.specs.Meaning.{Event}
use Rattle.sizes.specs.Meaning.{port_count}

-- a frame that was taken: it passed or was dropped
abbrev pub frame_in : Verdict → Bool
frame_in (Refused why) = false
frame_in Taken = false
frame_in (Passed p) = true
frame_in (Dropped d) = true

-- the number of its drop, 0 where it passed
abbrev pub drop_in : Verdict → ℕ
drop_in (Refused why) = 0
drop_in Taken = 0
drop_in (Passed p) = 0
drop_in (Dropped d) = drop_number_of d

-- dropped by its length, by the gate, by the meter
abbrev pub sdu_drop : ℕ → Bool
sdu_drop n = eqb n 1 || eqb n 2

abbrev pub gate_drop : ℕ → Bool
gate_drop n = eqb n 3 || eqb n 4 || eqb n 5

abbrev pub meter_drop : ℕ → Bool
meter_drop n = eqb n 6 || eqb n 7

-- ---- by whether the frame matched the filter (`m`), and the verdict

abbrev pub matching_in : Bool → Verdict → Bool
matching_in m v = m && frame_in v

abbrev pub passing_sdu_in : Bool → Verdict → Bool
passing_sdu_in m v = m && frame_in v && not (sdu_drop (drop_in v))

abbrev pub not_passing_sdu_in : Bool → Verdict → Bool
not_passing_sdu_in m v = m && frame_in v && sdu_drop (drop_in v)

abbrev pub passing_in : Bool → Verdict → Bool
passing_in m v = m && frame_in v && not (sdu_drop (drop_in v) || gate_drop (drop_in v))

abbrev pub not_passing_in : Bool → Verdict → Bool
not_passing_in m v = m && frame_in v && gate_drop (drop_in v)

abbrev pub red_in : Bool → Verdict → Bool
red_in m v = m && frame_in v && meter_drop (drop_in v)

-- ---- the predicates on events: the counters of filter f, and of port p

abbrev pub uses_of : ℕ → Found → Bool
uses_of f None = false
uses_of f (Some (i, row)) = eqb i f

abbrev pub matching : ℕ → Event → Bool
matching f e = matching_in (uses_of f e.filter) e.verdict

abbrev pub passing_sdu : ℕ → Event → Bool
passing_sdu f e = passing_sdu_in (uses_of f e.filter) e.verdict

abbrev pub not_passing_sdu : ℕ → Event → Bool
not_passing_sdu f e = not_passing_sdu_in (uses_of f e.filter) e.verdict

abbrev pub passing : ℕ → Event → Bool
passing f e = passing_in (uses_of f e.filter) e.verdict

abbrev pub not_passing : ℕ → Event → Bool
not_passing f e = not_passing_in (uses_of f e.filter) e.verdict

abbrev pub red : ℕ → Event → Bool
red f e = red_in (uses_of f e.filter) e.verdict

-- the port of an arrival; no port for any other record
abbrev pub arrival_port : Record → ℕ
arrival_port = of_arrival (λ a. a.port) port_count

abbrev pub port_by : Reading → ℕ
port_by (Err why) = port_count
port_by (Ok (r, used)) = arrival_port r

abbrev pub discarded_in : Bool → Verdict → Bool
discarded_in m v = m && frame_in v && eqb (drop_in v) 8

abbrev pub discarded : ℕ → Event → Bool
discarded p e = discarded_in (eqb (port_by e.reading) p) e.verdict

-- ---- the count over a history

abbrev pub one_if : Bool → ℕ
one_if b = cond b 1 0

unfoldable pub count_of : (Event → Bool) → List Event → ℕ
count_of test [] = 0
count_of test (e ∷ es) = one_if (test e) + count_of test es

abbrev pub wrap : ℕ
wrap = 18_446_744_073_709_551_616
