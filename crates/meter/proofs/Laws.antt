-- What holds of every step of a meter: what later proofs cite.
use Rattle.std.specs.Prelude.{ℕ, ◌+◌, ◌-◌, ◌*◌, ◌≤◌, ◌<◌, ◌^◌, min, Bool, cond, ◌≡◌, leb}
use Rattle.std.proofs.Math.Bool.{true, false}
use Rattle.std.proofs.Math.Path.{refl}
use Rattle.std.proofs.Common.{mul-add, arith, leb-true, leb-false}
use Rattle.logic.specs.Laws.{contrary}
use Rattle.bucket.specs.Meaning.{grains}
use Rattle.bucket.specs.declared.Rate.{Rate}
use Rattle.bucket.specs.declared.Octets.{Octets}
use Rattle.meter.specs.declared.Meter.{Meter}
use Rattle.meter.specs.declared.Metered.{Metered}
use Rattle.meter.specs.declared.Outcome.{Outcome}
use Rattle.meter.specs.declared.Outcome.TheVariants.{Green, Yellow, YellowDropped, Red, OutOfRange, TooEarly}
use Rattle.meter.specs.Meaning.{fresh_meter_of, meter_holding, spilt, filled_of, painted_of, colour_of, meter_in_range, painted_green, painted_yellow, painted_red, painted_stopped, meter_refused, yellow_outcome, meter_number_of}
use Rattle.meter.specs.Range.{Sound, InRange, in_range, in_range_back}
use Rattle.meter.proofs.Cases.{takes}

-- a fill and then another is one fill to the later time: when fills happen cannot be seen
committed_twice : (C c x₁ x₂ : ℕ) → min C (min C (c + x₁) + x₂) ≡ min C (c + (x₁ + x₂))
committed_twice C c x₁ x₂ = omega arith

overflow_twice : (C c x₁ x₂ : ℕ) → (c + x₁ - C) + (min C (c + x₁) + x₂ - C) ≡ c + (x₁ + x₂) - C
overflow_twice C c x₁ x₂ = omega arith

spilt_twice : (coupling : Bool) (o₁ o₂ o : ℕ) → o₁ + o₂ ≡ o → spilt coupling o₁ + spilt coupling o₂ ≡ spilt coupling o
spilt_twice true o₁ o₂ o h = h
spilt_twice false o₁ o₂ o h = refl

excess_twice : (E e y₁ y₂ s₁ s₂ s : ℕ) → s₁ + s₂ ≡ s → min E (min E (e + y₁ + s₁) + y₂ + s₂) ≡ min E (e + (y₁ + y₂) + s)
excess_twice E e y₁ y₂ s₁ s₂ s h = omega arith

pub filled_twice : (m : Meter) (t₁ t₂ : ℕ) → m.last ≤ t₁ → t₁ ≤ t₂ → filled_of (filled_of m t₁) t₂ ≡ filled_of m t₂
unfolding filled_of
filled_twice m t₁ t₂ h₁ h₂ =
    let C = grains m.cbs.0 in
    let d : t₂ - m.last ≡ (t₁ - m.last) + (t₂ - t₁) = omega arith in
    let x = mul-add m.cir.0 (t₁ - m.last) (t₂ - t₁) in
    let y = mul-add m.eir.0 (t₁ - m.last) (t₂ - t₁) in
    let x₁ = m.cir.0 * (t₁ - m.last) in
    let x₂ = m.cir.0 * (t₂ - t₁) in
    let o = spilt_twice m.coupling (m.committed + x₁ - C) (min C (m.committed + x₁) + x₂ - C) (m.committed + (x₁ + x₂) - C) (overflow_twice C m.committed x₁ x₂) in
    rw (d, x, y)
    (cc (committed_twice C m.committed x₁ x₂, excess_twice (grains m.ebs.0) m.excess (m.eir.0 * (t₁ - m.last)) (m.eir.0 * (t₂ - t₁)) _ _ _ o))

yellow_passes : (dropped : Bool) → meter_number_of (yellow_outcome dropped) ≡ 3 → ⊥
yellow_passes true n = omega arith
yellow_passes false n = omega arith

yellow_passes_9 : (dropped : Bool) → meter_number_of (yellow_outcome dropped) ≡ 9 → ⊥
yellow_passes_9 true n = omega arith
yellow_passes_9 false n = omega arith

-- every way out of a step: what holds of each of these holds of every step
pub data Coloured (m : Meter) (time : ℕ) (msdu : Octets) (eligible : Bool) : Metered → Type 0 where
  out_of_range : meter_in_range m time msdu ≡ false → Coloured m time msdu eligible (meter_refused m OutOfRange)
  too_early : InRange m time msdu → time < m.last → Coloured m time msdu eligible (meter_refused m TooEarly)
  flagged : InRange m time msdu → m.last ≤ time → m.red_flag ≡ true → Coloured m time msdu eligible (painted_stopped (filled_of m time))
  greened : InRange m time msdu → m.last ≤ time → m.red_flag ≡ false → takes (filled_of m time) (grains msdu.0) eligible ≡ true → Coloured m time msdu eligible (painted_green (filled_of m time) (grains msdu.0))
  yellowed : InRange m time msdu → m.last ≤ time → m.red_flag ≡ false → takes (filled_of m time) (grains msdu.0) eligible ≡ false → grains msdu.0 ≤ (filled_of m time).excess
      → Coloured m time msdu eligible (painted_yellow (filled_of m time) (grains msdu.0))
  reddened : InRange m time msdu → m.last ≤ time → m.red_flag ≡ false → takes (filled_of m time) (grains msdu.0) eligible ≡ false → (filled_of m time).excess < grains msdu.0 → Coloured m time msdu eligible (painted_red (filled_of m time))

module _ (m : Meter) (time : ℕ) (msdu : Octets) (eligible : Bool) where
  abbrev filled : Meter
  filled = filled_of m time

  abbrev need : ℕ
  need = grains msdu.0

  painted_is : InRange m time msdu → m.last ≤ time → (flag taken enough : Bool) → m.red_flag ≡ flag → takes filled need eligible ≡ taken → leb need filled.excess ≡ enough
      → Coloured m time msdu eligible (cond flag (painted_stopped filled) (cond taken (painted_green filled need) (cond enough (painted_yellow filled need) (painted_red filled))))
  painted_is k l true taken enough e e₁ e₂ = flagged k l e
  painted_is k l false true enough e e₁ e₂ = greened k l e e₁
  painted_is k l false false true e e₁ e₂ = yellowed k l e e₁ (leb-true _ _ e₂)
  painted_is k l false false false e e₁ e₂ = reddened k l e e₁ (leb-false _ _ e₂)

  taken_is : (ranged later : Bool) → meter_in_range m time msdu ≡ ranged → leb m.last time ≡ later
      → Coloured m time msdu eligible (cond ranged (cond later (painted_of filled need eligible) (meter_refused m TooEarly)) (meter_refused m OutOfRange))
  unfolding painted_of filled_of
  taken_is true true e e₁ = painted_is (in_range m time msdu e) (leb-true _ _ e₁) _ _ _ refl refl refl
  taken_is true false e e₁ = too_early (in_range m time msdu e) (leb-false _ _ e₁)
  taken_is false later e e₁ = out_of_range e

  pub colour_is : Coloured m time msdu eligible (colour_of m time msdu eligible)
  unfolding colour_of
  colour_is = taken_is _ _ refl refl

-- what is painted has one of the colours: no meter that takes a frame refuses it
pub data Colour : Outcome → Type 0 where
  green : Colour Green
  yellow : Colour Yellow
  yellow_dropped : Colour YellowDropped
  red : Colour Red

yellow_colour : (t : Bool) → Colour (yellow_outcome t)
yellow_colour true = yellow_dropped
yellow_colour false = yellow

pub painted_colour : (m : Meter) (need : ℕ) (eligible : Bool) → Colour (painted_of m need eligible).outcome
unfolding painted_of
painted_colour m need eligible = by_tests m.red_flag (takes m need eligible) (leb need m.excess)
  where
    by_tests : (flag taken enough : Bool) → Colour (cond flag (painted_stopped m) (cond taken (painted_green m need) (cond enough (painted_yellow m need) (painted_red m)))).outcome
    by_tests true taken enough = red
    by_tests false true enough = green
    by_tests false false true = yellow_colour m.drop_on_yellow
    by_tests false false false = red

-- a meter whose numbers are in range keeps them so: no bucket is ever above its burst
filled_sound : (m : Meter) (time : ℕ) → Sound m → time ≤ 2 ^ 62 → Sound (filled_of m time)
unfolding filled_of
filled_sound m time k h = record {
  cbs_high = k.cbs_high;
  ebs_high = k.ebs_high;
  committed_high = omega arith;
  excess_high = omega arith;
  cir_high = k.cir_high;
  eir_high = k.eir_high;
  last_high = h;
}

holding_sound : (m : Meter) (committed excess : ℕ) (flag : Bool) → Sound m → committed ≤ m.committed → excess ≤ m.excess → Sound (meter_holding m committed excess m.last flag)
holding_sound m committed excess flag k h h' = record {
  cbs_high = k.cbs_high;
  ebs_high = k.ebs_high;
  committed_high = omega (arith, k.committed_high);
  excess_high = omega (arith, k.excess_high);
  cir_high = k.cir_high;
  eir_high = k.eir_high;
  last_high = k.last_high;
}

pub fresh_sound : (cir : Rate) (cbs : Octets) (eir : Rate) (ebs : Octets) (coupling aware dropping block : Bool) → cir.0 ≤ 10_000_000_000 → cbs.0 ≤ 1_000_000 → eir.0 ≤ 10_000_000_000 → ebs.0 ≤ 1_000_000
    → Sound (fresh_meter_of cir cbs eir ebs coupling aware dropping block)
fresh_sound cir cbs eir ebs coupling aware dropping block h₁ h₂ h₃ h₄ = record {
  cbs_high = h₂;
  ebs_high = h₄;
  committed_high = omega arith;
  excess_high = omega arith;
  cir_high = h₁;
  eir_high = h₃;
  last_high = omega arith;
}

module _ {m : Meter} {time : ℕ} {msdu : Octets} {eligible : Bool} where
  sound_after : {r : Metered} → Coloured m time msdu eligible r → Sound m → Sound r.meter
  sound_after (out_of_range e) s = s
  sound_after (too_early k h) s = s
  sound_after (flagged k l e) s = filled_sound m time s k.time_high
  sound_after (greened k l e t) s = holding_sound (filled_of m time) _ _ _ (filled_sound m time s k.time_high) (omega arith) (omega arith)
  sound_after (yellowed k l e t h) s = holding_sound (filled_of m time) _ _ _ (filled_sound m time s k.time_high) (omega arith) (omega arith)
  sound_after (reddened k l e t h) s = holding_sound (filled_of m time) _ _ _ (filled_sound m time s k.time_high) (omega arith) (omega arith)

  flag_after : {r : Metered} → Coloured m time msdu eligible r → m.red_flag ≡ true → r.meter.red_flag ≡ true
  unfolding filled_of
  flag_after (out_of_range e) f = f
  flag_after (too_early k h) f = f
  flag_after (flagged k l e) f = f
  flag_after (greened k l e t) f = f
  flag_after (yellowed k l e t h) f = f
  flag_after (reddened k l e t h) f = rw f

  flag_red : {r : Metered} → Coloured m time msdu eligible r → m.red_flag ≡ false → r.meter.red_flag ≡ true → (m.red_block ≡ true) × (r.outcome ≡ Red)
  unfolding filled_of
  flag_red (out_of_range e) f g = contrary _ g f
  flag_red (too_early k h) f g = contrary _ g f
  flag_red (flagged k l e) f g = contrary _ g f
  flag_red (greened k l e t) f g = contrary _ g f
  flag_red (yellowed k l e t h) f g = contrary _ g f
  flag_red (reddened k l e t h) f g = (rw f at g, refl)

  settings_after : {r : Metered} → Coloured m time msdu eligible r → r.meter ≡ meter_holding m r.meter.committed r.meter.excess r.meter.last r.meter.red_flag
  unfolding filled_of
  settings_after (out_of_range e) = refl
  settings_after (too_early k h) = refl
  settings_after (flagged k l e) = refl
  settings_after (greened k l e t) = refl
  settings_after (yellowed k l e t h) = refl
  settings_after (reddened k l e t h) = refl

  refused_3 : {r : Metered} → Coloured m time msdu eligible r → meter_number_of r.outcome ≡ 3 → (r.meter ≡ m) × (meter_in_range m time msdu ≡ false)
  refused_3 (out_of_range e) n = (refl, e)
  refused_3 (too_early k h) n = absurd (omega arith)
  refused_3 (flagged k l e) n = absurd (omega arith)
  refused_3 (greened k l e t) n = absurd (omega arith)
  refused_3 (yellowed k l e t h) n = absurd (yellow_passes (filled_of m time).drop_on_yellow n)
  refused_3 (reddened k l e t h) n = absurd (omega arith)

  refused_9 : {r : Metered} → Coloured m time msdu eligible r → meter_number_of r.outcome ≡ 9 → (r.meter ≡ m) × (InRange m time msdu × (time < m.last))
  refused_9 (out_of_range e) n = absurd (omega arith)
  refused_9 (too_early k h) n = (refl, (k, h))
  refused_9 (flagged k l e) n = absurd (omega arith)
  refused_9 (greened k l e t) n = absurd (omega arith)
  refused_9 (yellowed k l e t h) n = absurd (yellow_passes_9 (filled_of m time).drop_on_yellow n)
  refused_9 (reddened k l e t h) n = absurd (omega arith)

  last_after : {r : Metered} → Coloured m time msdu eligible r → InRange m time msdu → m.last ≤ time → r.meter.last ≡ time
  unfolding filled_of
  last_after (out_of_range e) s h = contrary _ (in_range_back m time msdu s) e
  last_after (too_early k l) s h = absurd (omega arith)
  last_after (flagged k l e) s h = refl
  last_after (greened k l e t) s h = refl
  last_after (yellowed k l e t q) s h = refl
  last_after (reddened k l e t q) s h = refl

-- the same of `colour_of` itself
module _ (m : Meter) (time : ℕ) (msdu : Octets) (eligible : Bool) where
  abbrev after : Metered
  after = colour_of m time msdu eligible

  -- a sound meter stays sound, whatever it is given
  pub colour_sound : Sound m → Sound after.meter
  colour_sound = sound_after (colour_is m time msdu eligible)

  -- no step lifts the red flag
  pub colour_flag_stands : m.red_flag ≡ true → after.meter.red_flag ≡ true
  colour_flag_stands = flag_after (colour_is m time msdu eligible)

  -- and only drop 7 of a meter with red block sets it
  pub colour_flag_red : m.red_flag ≡ false → after.meter.red_flag ≡ true → (m.red_block ≡ true) × (after.outcome ≡ Red)
  colour_flag_red = flag_red (colour_is m time msdu eligible)

  -- a step changes tokens, time and flag, and no setting
  pub colour_settings : after.meter ≡ meter_holding m after.meter.committed after.meter.excess after.meter.last after.meter.red_flag
  colour_settings = settings_after (colour_is m time msdu eligible)

  -- a refusal changes nothing, and is given only where document 01 says
  pub colour_refused_3 : meter_number_of after.outcome ≡ 3 → (after.meter ≡ m) × (meter_in_range m time msdu ≡ false)
  colour_refused_3 = refused_3 (colour_is m time msdu eligible)

  pub colour_refused_9 : meter_number_of after.outcome ≡ 9 → (after.meter ≡ m) × (InRange m time msdu × (time < m.last))
  colour_refused_9 = refused_9 (colour_is m time msdu eligible)

  -- where it is not refused, the fill was at the frame's time
  pub colour_last : InRange m time msdu → m.last ≤ time → after.meter.last ≡ time
  colour_last = last_after (colour_is m time msdu eligible)
