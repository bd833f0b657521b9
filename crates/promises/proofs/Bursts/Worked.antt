-- Why the promise on bursts asks that the first history drops nothing of the group with 8: two histories, computed from their octets.
-- A burst of 1500 instead of 1000 admits the second frame, too, which the first history drops; the third frame is then eligible later: at 12,000 instead of 8000 ns.
use Rattle.std.specs.Prelude.{ℕ, cond, List, [], ◌∷◌, ◌++◌, ◌≡◌, refl}
use Rattle.std.proofs.Common.{arith}
use Rattle.gate.specs.Meaning.{entries_from, cycle_of, found_of, in_force_of, spent_of, limited_of, passed_of, gate_step_of}
use Rattle.scheduler.specs.Meaning.{scheduler_step_of, scheduler_in_range as schedulerInRangeOf}
use Rattle.record.specs.Meaning.{read_as, read_of, refusal_number_of}
use Rattle.bank.specs.Meaning.{with_row}
use Rattle.filter.specs.Meaning.{row_in_range as rowInRangeOf, is_filter_of, names_missing, exceeds_burst, counts_of, fits_of, row_answers, search_of}
use Rattle.verdict.specs.Meaning.{Verdict}
use Rattle.verdict.specs.Meaning.{Refused, Taken, Passed, Dropped}
use Rattle.verdict.specs.Meaning.{drop_number_of}
use Rattle.setup.specs.Meaning.{refused_if, set_gate_of, set_group_of, set_scheduler_of, some_of, start_of}
use Rattle.path.specs.Meaning.{pass_of, sdu_passed, gate_passed, discard_counted, scheduled_by, scheduled_of, metered_of, gated_by, gated_of, sdu_filtered_of, arrival_of}
use Rattle.stage.specs.Meaning.{Bridge, taken_of, read_by, take_of}
use Rattle.promises.specs.Meaning.{Call, run_of, fresh}
use Rattle.promises.specs.Bursts.Meaning.{StartTogether, Larger, Promise}
use Rattle.promises.proofs.Bursts.Theorem.{larger_burst}

-- what is seen of an answer: a setup record taken, a frame's eligibility time or that it has none, the number of a drop or of a refusal
pub data Seen : Type 0 where
  taken : Seen
  eligible : ℕ → Seen
  untimed : Seen
  drop : ℕ → Seen
  refused : ℕ → Seen

abbrev pub seen_of : Verdict → Seen
seen_of (Refused r) = refused (refusal_number_of r)
seen_of Taken = taken
seen_of (Passed p) = cond p.timed (eligible p.eligible) untimed
seen_of (Dropped d) = drop (drop_number_of d)

unfoldable pub seen_in : Bridge → List Call → List Seen
seen_in b [] = []
seen_in b (c ∷ cs) = seen_of (take_of b c).answer.verdict ∷ seen_in (take_of b c).after cs

-- gate 0, open; group 0 with a residence of 6000 ns
abbrev pub before : List Call
before = (3 ∷ 0 ∷ 1 ∷ 8 ∷ 0 ∷ 0 ∷ 0 ∷ 0 ∷ 0 ∷ 0 ∷ 0 ∷ 0 ∷ 0 ∷ 0 ∷ []) ∷ (6 ∷ 0 ∷ 0 ∷ 0 ∷ 23 ∷ 112 ∷ []) ∷ []

-- scheduler 0 of that group with a rate of 10^9, and a burst given by its last two octets
abbrev pub scheduler : ℕ → ℕ → Call
scheduler high low = 7 ∷ 0 ∷ 0 ∷ 0 ∷ 0 ∷ 0 ∷ 0 ∷ 59 ∷ 154 ∷ 202 ∷ 0 ∷ 0 ∷ 0 ∷ high ∷ low ∷ []

abbrev pub smaller : Call
smaller = scheduler 3 232

abbrev pub larger : Call
larger = scheduler 5 220

-- filter 0 for every frame, with a max SDU of 1000; start; three frames of 1000 octets, at 0, 0 and 6000 ns
abbrev pub after : List Call
after =
    (2 ∷ 0 ∷ 1 ∷ 0 ∷ 0 ∷ 0 ∷ 0 ∷ 8 ∷ 0 ∷ 3 ∷ 232 ∷ 0 ∷ 255 ∷ 0 ∷ [])
    ∷ (8 ∷ 8 ∷ [])
    ∷ (9 ∷ 0 ∷ 0 ∷ 0 ∷ 0 ∷ 0 ∷ 0 ∷ 0 ∷ 0 ∷ 0 ∷ 0 ∷ 0 ∷ 0 ∷ 0 ∷ 0 ∷ 0 ∷ 3 ∷ 232 ∷ [])
    ∷ (9 ∷ 0 ∷ 0 ∷ 0 ∷ 0 ∷ 0 ∷ 0 ∷ 0 ∷ 0 ∷ 0 ∷ 0 ∷ 0 ∷ 0 ∷ 0 ∷ 0 ∷ 0 ∷ 3 ∷ 232 ∷ [])
    ∷ (9 ∷ 0 ∷ 0 ∷ 0 ∷ 0 ∷ 0 ∷ 0 ∷ 0 ∷ 23 ∷ 112 ∷ 0 ∷ 0 ∷ 0 ∷ 0 ∷ 0 ∷ 0 ∷ 3 ∷ 232 ∷ [])
    ∷ []

pub first_drops : seen_in fresh (before ++ (smaller ∷ after)) ≡ taken ∷ taken ∷ taken ∷ taken ∷ taken ∷ eligible 0 ∷ drop 8 ∷ eligible 8000 ∷ []
unfolding seen_in fresh take_of read_by taken_of read_of read_as with_row refused_if set_gate_of set_group_of set_scheduler_of some_of start_of rowInRangeOf is_filter_of names_missing exceeds_burst counts_of fits_of row_answers search_of pass_of sdu_passed gate_passed discard_counted scheduled_by scheduled_of metered_of gated_by gated_of sdu_filtered_of arrival_of entries_from cycle_of found_of in_force_of spent_of limited_of passed_of gate_step_of scheduler_step_of schedulerInRangeOf
first_drops = refl

pub second_admits : seen_in fresh (before ++ (larger ∷ after)) ≡ taken ∷ taken ∷ taken ∷ taken ∷ taken ∷ eligible 0 ∷ eligible 4000 ∷ eligible 12_000 ∷ []
unfolding seen_in fresh take_of read_by taken_of read_of read_as with_row refused_if set_gate_of set_group_of set_scheduler_of some_of start_of rowInRangeOf is_filter_of names_missing exceeds_burst counts_of fits_of row_answers search_of pass_of sdu_passed gate_passed discard_counted scheduled_by scheduled_of metered_of gated_by gated_of sdu_filtered_of arrival_of entries_from cycle_of found_of in_force_of spent_of limited_of passed_of gate_step_of scheduler_step_of schedulerInRangeOf
second_admits = refl

-- the two calls in which the histories differ are such as the promise speaks of
pub calls_differ : Larger smaller larger
unfolding read_of read_as
calls_differ = record {
  first = record { id = 0; group = 0; cir = record { 0 = 1_000_000_000 }; cbs = record { 0 = 1000 } };
  second = record { id = 0; group = 0; cir = record { 0 = 1_000_000_000 }; cbs = record { 0 = 1500 } };
  used = 15;
  used' = 15;
  says = refl;
  says' = refl;
  ids = refl;
  groups = refl;
  rates = refl;
  bursts = omega arith;
}

-- and both histories take their start at the same call, so that the promise holds of them: its condition is what fails
starts_together : StartTogether (take_of (run_of fresh before) smaller).after (take_of (run_of fresh before) larger).after after
unfolding run_of fresh take_of read_by taken_of read_of read_as with_row refused_if set_gate_of set_group_of set_scheduler_of some_of start_of rowInRangeOf is_filter_of names_missing exceeds_burst counts_of fits_of row_answers search_of pass_of sdu_passed gate_passed discard_counted scheduled_by scheduled_of metered_of gated_by gated_of sdu_filtered_of arrival_of entries_from cycle_of found_of in_force_of spent_of limited_of passed_of gate_step_of scheduler_step_of schedulerInRangeOf
starts_together = (refl, (refl, (refl, (refl, (refl, tt)))))

pub promised : Promise 0 (take_of (run_of fresh before) smaller) (take_of (run_of fresh before) larger) after
unfolding calls_differ
promised = larger_burst before smaller larger after calls_differ starts_together
