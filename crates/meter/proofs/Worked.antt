-- The worked figures of document 01 for a meter, computed: 10^9 bit/s, CBS 1000, EIR 0, EBS 500, colour-blind, no red block.
use Rattle.std.specs.Prelude.{ℕ, Bool, true, false, List, [], ◌∷◌, ◌≡◌, refl}
use Rattle.bucket.specs.Meaning.{grains}
use Rattle.meter.specs.declared.Meter.{Meter}
use Rattle.meter.specs.declared.Metered.{Metered}
use Rattle.meter.specs.declared.Outcome.{Outcome}
use Rattle.meter.specs.declared.Outcome.TheVariants.{Green, Yellow, Red}
use Rattle.meter.specs.Meaning.{fresh_meter_of, filled_of, painted_of, colour_of, meter_in_range}

-- the meter of the figures, with or without coupling
abbrev pub worked : Bool → Meter
worked coupling = fresh_meter_of (record { 0 = 1_000_000_000 }) (record { 0 = 1000 }) (record { 0 = 0 }) (record { 0 = 500 }) coupling false false false

-- a frame that is not drop eligible: its time and its octets
pub record Frame : Type 0 where
  pub time : ℕ
  pub msdu : ℕ

abbrev pub frame : ℕ → ℕ → Frame
frame time msdu = record { time = time; msdu = msdu }

-- a row of frames through one meter: the outcomes, and the meter afterwards
abbrev pub step_of : Meter → Frame → Metered
step_of m f = colour_of m f.time (record { 0 = f.msdu }) false

unfoldable pub outcomes_of : Meter → List Frame → List Outcome
outcomes_of m [] = []
outcomes_of m (f ∷ fs) = (step_of m f).outcome ∷ outcomes_of (step_of m f).meter fs

unfoldable pub after_of : Meter → List Frame → Meter
after_of m [] = m
after_of m (f ∷ fs) = after_of (step_of m f).meter fs

-- ★J at 0: 600 green, 500 yellow, 400 green, 1 red
abbrev pub frames_j : List Frame
frames_j = frame 0 600 ∷ frame 0 500 ∷ frame 0 400 ∷ frame 0 1 ∷ []

pub case_j : outcomes_of (worked false) frames_j ≡ Green ∷ Yellow ∷ Green ∷ Red ∷ []
unfolding outcomes_of colour_of meter_in_range painted_of filled_of
case_j = refl

-- ★K at 8 after J: 1 green
pub case_k : outcomes_of (after_of (worked false) frames_j) (frame 8 1 ∷ []) ≡ Green ∷ []
unfolding outcomes_of after_of colour_of meter_in_range painted_of filled_of
case_k = refl

-- with coupling, after 600 and 500 at 0, at 8800: buckets 1000 and 500
pub record Buckets : Type 0 where
  pub committed : ℕ
  pub excess : ℕ

abbrev pub buckets_of : Meter → Buckets
buckets_of m = record { committed = m.committed; excess = m.excess }

pub case_coupling : buckets_of (filled_of (after_of (worked true) (frame 0 600 ∷ frame 0 500 ∷ [])) 8800) ≡ record { committed = grains 1000; excess = grains 500 }
unfolding after_of colour_of meter_in_range painted_of filled_of
case_coupling = refl

-- where the overflow is lost, the excess bucket stays empty
pub case_lost : buckets_of (filled_of (after_of (worked false) (frame 0 600 ∷ frame 0 500 ∷ [])) 8800) ≡ record { committed = grains 1000; excess = grains 0 }
unfolding after_of colour_of meter_in_range painted_of filled_of
case_lost = refl
