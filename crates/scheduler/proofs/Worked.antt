-- The worked cases, computed.
use Rattle.std.specs.Prelude.{[], ◌∷◌, ◌≡◌, refl}
use Rattle.scheduler.specs.declared.Outcome.TheVariants.{Admitted, Dropped, Refused}
use Rattle.scheduler.specs.Meaning.{scheduler_step_of, scheduler_in_range}
use Rattle.scheduler.specs.Worked.{full, outcomes_after, last_of, S, CaseABC, CaseD, CaseE}

pub case_abc : CaseABC
unfolding outcomes_after scheduler_step_of scheduler_in_range
case_abc = refl

pub case_d : CaseD
unfolding outcomes_after scheduler_step_of scheduler_in_range
case_d = refl

pub case_e : CaseE
unfolding outcomes_after last_of scheduler_step_of scheduler_in_range
case_e = refl

-- a rate of 0 is out of range
rate_zero : outcomes_after (full 0 1000) 0 10_000 500 (0 ∷ []) ≡ Refused ∷ []
unfolding outcomes_after scheduler_step_of scheduler_in_range
rate_zero = refl

-- `Larger.antt`'s law holds of a step in which the smaller burst admits, and not over a run in which it drops: the larger one admits the second frame too, and then the third is eligible later
pub small_drops : outcomes_after S 0 6000 1000 (0 ∷ 0 ∷ 6000 ∷ []) ≡ Admitted 0 ∷ Dropped ∷ Admitted 8000 ∷ []
unfolding outcomes_after scheduler_step_of scheduler_in_range
small_drops = refl

pub large_admits : outcomes_after (full 1_000_000_000 1500) 0 6000 1000 (0 ∷ 0 ∷ 6000 ∷ []) ≡ Admitted 0 ∷ Admitted 4000 ∷ Admitted 12_000 ∷ []
unfolding outcomes_after scheduler_step_of scheduler_in_range
large_admits = refl
