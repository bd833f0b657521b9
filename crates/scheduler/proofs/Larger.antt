-- A larger burst is never worse, and a scheduler keeps itself in range.
use Rattle.std.specs.Prelude.{ℕ, ◌+◌, ◌-◌, ◌≤◌, ◌^◌, true, ◌≡◌, refl}
use Rattle.std.proofs.Common.{arith}
use Rattle.bucket.specs.Meaning.{grains, grown, wait_for}
use Rattle.bucket.proofs.Laws.{Above, above_wait, above_taken}
use Rattle.bucket.specs.declared.Octets.{Octets}
use Rattle.scheduler.specs.declared.Scheduler.{Scheduler}
use Rattle.scheduler.specs.declared.Outcome.TheVariants.{Admitted}
use Rattle.scheduler.specs.Meaning.{scheduler_in_range, scheduler_step_of, spent, eligible_of}
use Rattle.scheduler.proofs.Range.{Ranged, ranged, ranged_back}
use Rattle.scheduler.proofs.Cases.{step_admitted, enough}

-- s' is s with a burst at least as large: from s's last time on, its bucket never holds less
pub record Ahead (s s' : Scheduler) : Type 0 where
  pub rates : s'.rate.0 ≡ s.rate.0
  pub bursts : s.burst.0 ≤ s'.burst.0
  pub lasts : s'.last ≤ s.last
  pub levels : Above s.rate.0 s.level (grains s.burst.0) s.last s'.level (grains s'.burst.0) s'.last

module _ (s s' : Scheduler) (group group' residence arrival : ℕ) (length : Octets)
    (ahead : Ahead s s') (groups : group' ≤ group) (k : Ranged s group residence arrival length) (k' : Ranged s' group' residence arrival length) where
  -- the times at which a frame is eligible
  abbrev at : ℕ
  at = eligible_of s group arrival length.0

  abbrev at' : ℕ
  at' = eligible_of s' group' arrival length.0

  waits : s'.last + wait_for s'.level s'.rate.0 (grains length.0) ≤ s.last + wait_for s.level s.rate.0 (grains length.0)
  waits = rw ahead.rates (above_wait s.rate.0 s.level (grains s.burst.0) s.last s'.level (grains s'.burst.0) s'.last (grains length.0) k.rate_low (omega (arith, k.length_high)) ahead.lasts ahead.levels)

  pub no_later : at' ≤ at
  no_later = omega (arith, waits, groups)

  -- at any two times for which the second bucket holds the frame. The times are variables here, so that the rate in them is not rewritten too
  after : (e e' : ℕ) → s.last ≤ e → s'.last ≤ e' → e' ≤ e → grains length.0 ≤ grown s'.level s'.rate.0 (grains s'.burst.0) (e' - s'.last) → Ahead (spent s length.0 e) (spent s' length.0 e')
  after e e' h h' sooner there = record {
    rates = ahead.rates;
    bursts = ahead.bursts;
    lasts = sooner;
    levels = rw ahead.rates
        (above_taken s.rate.0 s.level (grains s.burst.0) s.last s'.level (grains s'.burst.0) s'.last (grains length.0) e e' (omega (arith, ahead.bursts)) h h' sooner (rw ahead.rates at there) ahead.levels);
  }

  pub still_ahead : Ahead (spent s length.0 at) (spent s' length.0 at')
  still_ahead = after at at' (omega arith) (omega arith) no_later (enough s' group' residence arrival length at' k' (omega arith))

-- the second takes whatever the first takes, if its own burst and level are in range
ahead_range : (s s' : Scheduler) (group group' residence arrival : ℕ) (length : Octets) → Ahead s s' → group' ≤ group → s'.burst.0 ≤ 1_000_000 → s'.level ≤ grains s'.burst.0
    → Ranged s group residence arrival length → Ranged s' group' residence arrival length
ahead_range s s' group group' residence arrival length ahead groups small level k = record {
  burst_low = omega arith;
  burst_high = small;
  level_high = level;
  length_high = omega arith;
  rate_low = omega arith;
  rate_high = omega arith;
  last_high = omega arith;
  group_high = omega arith;
  arrival_high = k.arrival_high;
  residence_low = k.residence_low;
  residence_high = k.residence_high;
}

-- so where the one admits, the other admits too, no later, and stays ahead
pub larger_burst_step : (s s' : Scheduler) (group group' residence arrival : ℕ) (length : Octets) → Ahead s s' → group' ≤ group → s'.burst.0 ≤ 1_000_000 → s'.level ≤ grains s'.burst.0
    → scheduler_in_range s group residence arrival length ≡ true
    → (let at = eligible_of s group arrival length.0 in let at' = eligible_of s' group' arrival length.0 in at ≤ arrival + residence
    → (scheduler_step_of s group residence arrival length ≡ record { scheduler = spent s length.0 at; outcome = Admitted at })
    × (scheduler_step_of s' group' residence arrival length ≡ record { scheduler = spent s' length.0 at'; outcome = Admitted at' })
    × (at' ≤ at)
    × Ahead (spent s length.0 at) (spent s' length.0 at'))
larger_burst_step s s' group group' residence arrival length ahead groups small level e h =
    let k = ranged s group residence arrival length e in
    let k' = ahead_range s s' group group' residence arrival length ahead groups small level k in
    let sooner = no_later s s' group group' residence arrival length ahead groups k k' in (
      step_admitted s group residence arrival length e _ refl _ h refl,
      step_admitted s' group' residence arrival length (ranged_back s' group' residence arrival length k') _ refl _ (omega (arith, sooner, h)) refl,
      sooner,
      still_ahead s s' group group' residence arrival length ahead groups k k',
    )

-- after an admitted frame the scheduler's own numbers are in range again: no later step is refused for them
pub in_range_again : (s : Scheduler) (group residence arrival : ℕ) (length : Octets) → Ranged s group residence arrival length
    → (at : ℕ) → at ≤ arrival + residence → ((spent s length.0 at).level ≤ grains s.burst.0) × ((spent s length.0 at).last ≤ 2 ^ 62 + 1_000_000_000)
in_range_again s group residence arrival length k at h = (omega arith, omega (arith, k))
