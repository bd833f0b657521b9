-- What a range test that held tells, and what a meter keeps.
use Rattle.std.specs.Prelude.{ℕ, ◌≤◌, ◌^◌, true, ◌&&◌, ◌≡◌, leb}
use Rattle.std.proofs.Common.{leb-true, le-leb}
use Rattle.logic.specs.Laws.{conjuncts}
use Rattle.bucket.specs.Meaning.{grains}
use Rattle.bucket.specs.declared.Octets.{Octets}
use Rattle.meter.specs.declared.Meter.{Meter}
use Rattle.meter.specs.Meaning.{meter_in_range}

-- the meter's own numbers are in range
pub record Sound (m : Meter) : Type 0 where
  pub cbs_high : m.cbs.0 ≤ 1_000_000
  pub ebs_high : m.ebs.0 ≤ 1_000_000
  pub committed_high : m.committed ≤ grains m.cbs.0
  pub excess_high : m.excess ≤ grains m.ebs.0
  pub cir_high : m.cir.0 ≤ 10_000_000_000
  pub eir_high : m.eir.0 ≤ 10_000_000_000
  pub last_high : m.last ≤ 2 ^ 62

-- and those of a frame
pub record InRange (m : Meter) (time : ℕ) (msdu : Octets) : Type 0 where
  pub sound : Sound m
  pub time_high : time ≤ 2 ^ 62
  pub msdu_high : msdu.0 ≤ 2000

-- what a fill asks
pub record Ready (m : Meter) (time : ℕ) : Type 0 where
  pub sound : Sound m
  pub later : m.last ≤ time

-- the test of the bursts alone, by which the products of the others are safe
pub record Bursts (cbs ebs : ℕ) : Type 0 where
  pub cbs_high : cbs ≤ 1_000_000
  pub ebs_high : ebs ≤ 1_000_000

pub bursts : (cbs ebs : ℕ) → (leb cbs 1_000_000 && leb ebs 1_000_000) ≡ true → Bursts cbs ebs
bursts cbs ebs e = record { cbs_high = leb-true cbs 1_000_000 (search conjuncts); ebs_high = leb-true ebs 1_000_000 (search conjuncts) }

pub in_range : (m : Meter) (time : ℕ) (msdu : Octets) → meter_in_range m time msdu ≡ true → InRange m time msdu
unfolding meter_in_range
in_range m time msdu e =
    record {
      sound = record {
        cbs_high = leb-true m.cbs.0 1_000_000 (search conjuncts depth 12);
        ebs_high = leb-true m.ebs.0 1_000_000 (search conjuncts depth 12);
        committed_high = leb-true m.committed (grains m.cbs.0) (search conjuncts depth 12);
        excess_high = leb-true m.excess (grains m.ebs.0) (search conjuncts depth 12);
        cir_high = leb-true m.cir.0 10_000_000_000 (search conjuncts depth 12);
        eir_high = leb-true m.eir.0 10_000_000_000 (search conjuncts depth 12);
        last_high = leb-true m.last (2 ^ 62) (search conjuncts depth 12);
      };
      time_high = leb-true time (2 ^ 62) (search conjuncts depth 12);
      msdu_high = leb-true msdu.0 2000 (search conjuncts depth 12);
    }

-- and the other way round: a sound meter takes every frame in range
pub in_range_back : (m : Meter) (time : ℕ) (msdu : Octets) → InRange m time msdu → meter_in_range m time msdu ≡ true
unfolding meter_in_range
in_range_back m time msdu k =
    let s = k.sound in
    simp (le-leb _ _ s.cbs_high, le-leb _ _ s.ebs_high, le-leb _ _ s.committed_high, le-leb _ _ s.excess_high, le-leb _ _ s.cir_high, le-leb _ _ s.eir_high, le-leb _ _ s.last_high, le-leb _ _ k.time_high, le-leb _ _ k.msdu_high)
