-- The fill as it is computed in 64 bits, and that it is the exact one: of what the committed rate brings, all that matters is what fits in both buckets.
use Rattle.std.specs.Prelude.{ℕ, ◌+◌, ◌-◌, ◌≤◌, min, Bool, true, false, ◌≡◌}
use Rattle.std.proofs.Common.{arith}
use Rattle.meter.specs.declared.Meter.{Meter}
use Rattle.meter.specs.Meaning.{filled_of, meter_holding, committed_of, excess_of, spilt}

pub spilt_less : (coupling : Bool) (over : ℕ) → spilt coupling over ≤ over
spilt_less true over = omega arith
spilt_less false over = omega arith

-- The committed bucket has `C` grains, holds `c` and gets `x`; the excess bucket has `E`, holds `e` and gets `y`. `gain` and `own` are what counts of x and y
module _ (C c E x gain : ℕ) (gained : gain ≡ min (C + E) (0 + x)) where
  pub fill_committed : min C (c + gain) ≡ min C (c + x)
  fill_committed = omega arith

  -- what flows over is cut off only where it fills the excess bucket
  fill_over : min E (c + gain - C) ≡ min E (c + x - C)
  fill_over = omega arith

  pub fill_excess : (coupling : Bool) (e y own : ℕ) → own ≡ min E (0 + y) → min E (e + own + spilt coupling (c + gain - C)) ≡ min E (e + y + spilt coupling (c + x - C))
  fill_excess true e y own owned = core E e y own (c + gain - C) (c + x - C) owned fill_over
    where
      core : (E e y own over over' : ℕ) → own ≡ min E (0 + y) → min E over ≡ min E over' → min E (e + own + over) ≡ min E (e + y + over')
      core E e y own over over' owned h = omega arith
  fill_excess false e y own owned = omega arith

pub filled_is : (m : Meter) (time committed excess : ℕ) → committed ≡ committed_of m (time - m.last) → excess ≡ excess_of m (time - m.last) → meter_holding m committed excess time m.red_flag ≡ filled_of m time
unfolding filled_of
filled_is m time committed excess e₁ e₂ = cc
