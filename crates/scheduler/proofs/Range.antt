-- What a range check that held tells of the numbers of a step.
use Rattle.std.specs.Prelude.{ℕ, ◌+◌, ◌≤◌, ◌^◌, true, ◌≡◌}
use Rattle.std.proofs.Common.{leb-true, le-leb}
use Rattle.bucket.specs.declared.Rate.{Rate}
use Rattle.bucket.specs.declared.Octets.{Octets}
use Rattle.scheduler.specs.declared.Scheduler.{Scheduler}
use Rattle.logic.specs.Laws.{conjuncts}
use Rattle.bucket.specs.Meaning.{grains}
use Rattle.scheduler.specs.Meaning.{scheduler_in_range}

pub record Ranged (s : Scheduler) (group residence arrival : ℕ) (length : Octets) : Type 0 where
  pub burst_low : 1 ≤ s.burst.0
  pub burst_high : s.burst.0 ≤ 1_000_000
  pub level_high : s.level ≤ grains s.burst.0
  pub length_high : length.0 ≤ s.burst.0
  pub rate_low : 1 ≤ s.rate.0
  pub rate_high : s.rate.0 ≤ 10_000_000_000
  pub last_high : s.last ≤ 2 ^ 62 + 1_000_000_000
  pub group_high : group ≤ 2 ^ 62 + 1_000_000_000
  pub arrival_high : arrival ≤ 2 ^ 62
  pub residence_low : 1 ≤ residence
  pub residence_high : residence ≤ 1_000_000_000

module _ (s : Scheduler) (group residence arrival : ℕ) (length : Octets) where
  pub ranged : scheduler_in_range s group residence arrival length ≡ true → Ranged s group residence arrival length
  unfolding scheduler_in_range
  ranged e = record {
    burst_low = leb-true 1 s.burst.0 (search conjuncts depth 12);
    burst_high = leb-true s.burst.0 1_000_000 (search conjuncts depth 12);
    level_high = leb-true s.level (grains s.burst.0) (search conjuncts depth 12);
    length_high = leb-true length.0 s.burst.0 (search conjuncts depth 12);
    rate_low = leb-true 1 s.rate.0 (search conjuncts depth 12);
    rate_high = leb-true s.rate.0 10_000_000_000 (search conjuncts depth 12);
    last_high = leb-true s.last (2 ^ 62 + 1_000_000_000) (search conjuncts depth 12);
    group_high = leb-true group (2 ^ 62 + 1_000_000_000) (search conjuncts depth 12);
    arrival_high = leb-true arrival (2 ^ 62) (search conjuncts depth 12);
    residence_low = leb-true 1 residence (search conjuncts depth 12);
    residence_high = leb-true residence 1_000_000_000 (search conjuncts depth 12);
  }

  -- and the other way round
  pub ranged_back : Ranged s group residence arrival length → scheduler_in_range s group residence arrival length ≡ true
  unfolding scheduler_in_range
  ranged_back k =
      simp (le-leb _ _ k.burst_high, le-leb _ _ k.burst_low, le-leb _ _ k.level_high, le-leb _ _ k.length_high, le-leb _ _ k.rate_low, le-leb _ _ k.rate_high, le-leb _ _ k.last_high, le-leb _ _ k.group_high, le-leb _ _ k.arrival_high, le-leb _ _ k.residence_low, le-leb _ _ k.residence_high)

-- the same of a scheduler given by its numbers
abbrev pub InRange : Rate → Octets → ℕ → ℕ → ℕ → ℕ → ℕ → Octets → Type 0
InRange rate burst level last group residence arrival length = Ranged (record { rate = rate; burst = burst; level = level; last = last }) group residence arrival length

module _ (rate : Rate) (burst : Octets) (level last group residence arrival : ℕ) (length : Octets) where
  pub in_range : scheduler_in_range (record { rate = rate; burst = burst; level = level; last = last }) group residence arrival length ≡ true → InRange rate burst level last group residence arrival length
  in_range e = ranged (record { rate = rate; burst = burst; level = level; last = last }) group residence arrival length e

  pub in_range_back : InRange rate burst level last group residence arrival length → scheduler_in_range (record { rate = rate; burst = burst; level = level; last = last }) group residence arrival length ≡ true
  in_range_back k = ranged_back (record { rate = rate; burst = burst; level = level; last = last }) group residence arrival length k
