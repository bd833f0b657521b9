-- What a frame does to the flags of a gate: each is set by its own drop alone, and only if its block is enabled; no frame lifts one.
use Rattle.std.specs.Prelude.{ℕ, true, ◌||◌, ◌&&◌, Option, ◌≡◌, refl, eqb}
use mathlib.Core.List.{List, [], ◌∷◌}
use Rattle.std.proofs.Common.{◌∙◌}
use Rattle.std.proofs.Math.Bool.{or-false, or-true}
use Rattle.gate.specs.declared.Entry.{Entry}
use Rattle.gate.specs.declared.Found.{Found}
use Rattle.gate.specs.declared.Gate.{Gate}
use Rattle.gate.specs.declared.Stepped.{Stepped}
use Rattle.gate.specs.declared.Outcome.TheVariants.{Blocked}
use Rattle.gate.specs.Meaning.{gate_number_of, gate_answer, gate_step_of, Frame, gate_after}
use Rattle.gate.proofs.Cases.{step_blocked, Way, blocked, closed, exceeded, free, counted, step_way}

-- ---- one frame
module _ (g : Gate) where
  way_invalid_receive : (h : Option Found) (n : ℕ) (r : Stepped) → Way g h n r
      → r.gate.invalid_receive_flag ≡ (g.invalid_receive_flag || (eqb (gate_number_of r.outcome) 4 && g.invalid_receive_block))
  way_invalid_receive h n r blocked = rw or-false
  way_invalid_receive h n r closed = refl
  way_invalid_receive h n r exceeded = rw or-false
  way_invalid_receive h n r (free p u) = rw or-false
  way_invalid_receive h n r (counted f e l) = rw or-false

  way_octets : (h : Option Found) (n : ℕ) (r : Stepped) → Way g h n r
      → r.gate.octets_flag ≡ (g.octets_flag || (eqb (gate_number_of r.outcome) 5 && g.octets_block))
  way_octets h n r blocked = rw or-false
  way_octets h n r closed = rw or-false
  way_octets h n r exceeded = refl
  way_octets h n r (free p u) = rw or-false
  way_octets h n r (counted f e l) = rw or-false

  module _ (es : List Entry) (t n : ℕ) where
    -- drop 4 sets the invalid-receive flag, and nothing else does
    pub step_invalid_receive : (gate_step_of g es t n).gate.invalid_receive_flag ≡ (g.invalid_receive_flag || (eqb (gate_number_of (gate_step_of g es t n).outcome) 4 && g.invalid_receive_block))
    step_invalid_receive = way_invalid_receive _ n _ (step_way g es t n)

    -- drop 5 sets the octets flag, and nothing else does
    pub step_octets : (gate_step_of g es t n).gate.octets_flag ≡ (g.octets_flag || (eqb (gate_number_of (gate_step_of g es t n).outcome) 5 && g.octets_block))
    step_octets = way_octets _ n _ (step_way g es t n)

    -- where either stands, the frame is dropped and the gate stays as it is
    pub step_invalid_receive_blocks : g.invalid_receive_flag ≡ true → gate_step_of g es t n ≡ gate_answer g Blocked
    step_invalid_receive_blocks e = step_blocked g es t n (rw e)

    pub step_octets_blocks : g.octets_flag ≡ true → gate_step_of g es t n ≡ gate_answer g Blocked
    step_octets_blocks e = step_blocked g es t n (rw (e, or-true))

-- ---- every run of frames, whatever their times and lengths
module _ (es : List Entry) where
  pub after_invalid_receive : (g : Gate) (frames : List Frame) → g.invalid_receive_flag ≡ true → (gate_after g es frames).invalid_receive_flag ≡ true
  unfolding gate_after
  after_invalid_receive g [] e = e
  after_invalid_receive g (a ∷ more) e = after_invalid_receive (gate_step_of g es a.time a.octets).gate more (step_invalid_receive g es a.time a.octets ∙ rw e)

  pub after_octets : (g : Gate) (frames : List Frame) → g.octets_flag ≡ true → (gate_after g es frames).octets_flag ≡ true
  unfolding gate_after
  after_octets g [] e = e
  after_octets g (a ∷ more) e = after_octets (gate_step_of g es a.time a.octets).gate more (step_octets g es a.time a.octets ∙ rw e)
