-- The three cases of `scheduler_step_of`, each from the facts that a step has in hand; and that what an admitted frame takes is there.
use Rattle.std.specs.Prelude.{ℕ, ◌+◌, ◌-◌, ◌≤◌, ◌<◌, true, false, ◌≡◌}
use Rattle.std.proofs.Common.{◌∙◌, arith, le-leb}
use Rattle.std.proofs.lemmas.Bool.{lt-leb}
use Rattle.bucket.specs.Meaning.{grains, grown, wait_for}
use Rattle.bucket.proofs.Laws.{wait_enough}
use Rattle.bucket.specs.declared.Octets.{Octets}
use Rattle.scheduler.specs.declared.Scheduler.{Scheduler}
use Rattle.scheduler.specs.declared.Outcome.TheVariants.{Admitted, Dropped, Refused}
use Rattle.scheduler.specs.Meaning.{scheduler_in_range, scheduler_step_of, decided, eligible_of}
use Rattle.scheduler.proofs.Range.{Ranged}

module _ (s : Scheduler) (group residence arrival : ℕ) (length : Octets) where
  pub step_refused : scheduler_in_range s group residence arrival length ≡ false → scheduler_step_of s group residence arrival length ≡ record { scheduler = s; outcome = Refused }
  unfolding scheduler_step_of
  step_refused e = rw e

  module _ (e : scheduler_in_range s group residence arrival length ≡ true) where
    step_decided : scheduler_step_of s group residence arrival length ≡ decided s length.0 (eligible_of s group arrival length.0) (arrival + residence)
    unfolding scheduler_step_of
    step_decided = rw e

    module _ (at : ℕ) (is : at ≡ eligible_of s group arrival length.0) where
      pub step_dropped : arrival + residence < at → scheduler_step_of s group residence arrival length ≡ record { scheduler = s; outcome = Dropped }
      step_dropped h = step_decided ∙ rw (← is, lt-leb _ _ h)

      pub step_admitted : (left : ℕ) → at ≤ arrival + residence → left ≡ grown s.level s.rate.0 (grains s.burst.0) (at - s.last)
          → scheduler_step_of s group residence arrival length ≡ record { scheduler = record { rate = s.rate; burst = s.burst; level = left - grains length.0; last = at }; outcome = Admitted at }
      step_admitted left h e' = step_decided ∙ rw (← is, le-leb _ _ h, ← e')

  -- at the eligibility time, and later, the bucket holds the frame
  pub enough : (at : ℕ) → Ranged s group residence arrival length → s.last + wait_for s.level s.rate.0 (grains length.0) ≤ at
      → grains length.0 ≤ grown s.level s.rate.0 (grains s.burst.0) (at - s.last)
  enough at k h = omega (arith, wait_enough s.level s.rate.0 (grains length.0) (at - s.last) k.rate_low (omega arith))
