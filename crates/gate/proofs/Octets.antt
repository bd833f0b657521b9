-- The octets left in an interval: whole when it begins, less by what passes, and so never exceeded, over every run of frames whose times do not go back.
use Rattle.std.specs.Prelude.{ℕ, ◌+◌, ◌≤◌, ◌<◌, true, false, Option, Some, ◌≡◌}
use mathlib.Core.List.{List, [], ◌∷◌}
use Rattle.std.proofs.Math.Path.{refl, ap}
use Rattle.std.proofs.Common.{inl, inr, sym, zero-add, lt-ltb, le-ltb}
use native.Mathlib.Omega.{arith}
use Rattle.std.proofs.Math.Nat.{add-zero, sub-zero}
use Rattle.std.proofs.lemmas.Bool.{cases_lt}
use Rattle.std.proofs.lemmas.Option.{same_Some}
use Rattle.gate.specs.declared.Entry.{Entry}
use Rattle.gate.specs.declared.Found.{Found}
use Rattle.gate.specs.declared.Gate.{Gate}
use Rattle.gate.specs.declared.Stepped.{Stepped}
use Rattle.gate.specs.Meaning.{no_limit, spent_of, left_of, in_force_of, gate_step_of, Frame, Ordered, next, in_interval, octets_passed, passed_in}
use Rattle.gate.proofs.Cases.{spent_same, spent_other, Way, blocked, closed, exceeded, free, counted, step_way}
use Rattle.gate.proofs.Times.{in_force_begun, in_force_constant}

-- ---- one frame

-- an interval that is not the one counted has its maximum left, whatever passed in others
pub left_whole : (g : Gate) (f : Found) → (g.since ≡ f.start → ⊥) → left_of g f ≡ f.entry.maximum
left_whole g f h = rw (spent_other g f.start h, sub-zero)

-- every step leaves the base time, and counts for no interval that begins after the frame
way_base : (g : Gate) (h : Option Found) (n : ℕ) (r : Stepped) → Way g h n r → r.gate.base ≡ g.base
way_base g h n r blocked = refl
way_base g h n r closed = refl
way_base g h n r exceeded = refl
way_base g h n r (free p u) = refl
way_base g h n r (counted f e l) = refl

way_since : (g : Gate) (h : Option Found) (n t : ℕ) (r : Stepped) → ((f : Found) → h ≡ Some f → f.start ≤ t) → g.since ≤ t → Way g h n r → r.gate.since ≤ t
way_since g h n t r begun old blocked = old
way_since g h n t r begun old closed = old
way_since g h n t r begun old exceeded = old
way_since g h n t r begun old (free p u) = old
way_since g h n t r begun old (counted f e l) = begun f e

module _ (f : Found) (limited : f.entry.maximum ≡ no_limit → ⊥) where
  -- a frame in f's interval leaves what was left, less what passed
  way_left : (g : Gate) (n : ℕ) (r : Stepped) → Way g (Some f) n r → left_of r.gate f + octets_passed r.outcome n ≡ left_of g f
  unfolding spent_of
  way_left g n r blocked = add-zero _
  way_left g n r closed = add-zero _
  way_left g n r exceeded = add-zero _
  way_left g n r (free p u) = absurd (limited (u f refl))
  way_left g n r (counted f' e l) =
      let j = same_Some f f' e in
      let s = ap (λ (x : Found). x.start) j in
      let m = ap (λ (x : Found). x.entry.maximum) j in
      let old : spent_of g f'.start ≡ spent_of g f.start = ap (λ (x : ℕ). spent_of g x) (sym s) in
      let new : spent_of r.gate f.start ≡ spent_of g f'.start + n = spent_same r.gate f.start (sym s) in
      omega arith

  module _ (es : List Entry) where
    pub step_left : (g : Gate) (t n : ℕ) → in_force_of es g.base t ≡ Some f → left_of (gate_step_of g es t n).gate f + octets_passed (gate_step_of g es t n).outcome n ≡ left_of g f
    step_left g t n e = way_left g n _ (rw e at (step_way g es t n))

    -- ---- runs

    within_early : (t : ℕ) → t < f.start → in_interval f t ≡ false
    within_early t h = rw (lt-ltb t f.start h)

    within_inside : (t : ℕ) → f.start ≤ t → t < f.start + f.entry.interval → in_interval f t ≡ true
    within_inside t b l = rw (le-ltb t f.start b, lt-ltb t (f.start + f.entry.interval) l)

    within_past : (t : ℕ) → f.start + f.entry.interval ≤ t → in_interval f t ≡ false
    within_past t h = let b : f.start ≤ t = omega arith in rw (le-ltb t f.start b, le-ltb t (f.start + f.entry.interval) h)

    passed_past : (g : Gate) (u : ℕ) (frames : List Frame) → f.start + f.entry.interval ≤ u → Ordered u frames → passed_in f g es frames ≡ 0
    unfolding passed_in
    passed_past g u [] h o = refl
    passed_past g u (a ∷ more) h (next l o) =
        let w = within_past a.time (omega arith) in
        rw (w, zero-add) (passed_past (gate_step_of g es a.time a.octets).gate a.time more (omega arith) o)

    -- f being in force from its start on, no more octets pass in its interval than are left in it
    pub passed_at_most_left : (g : Gate) (u : ℕ) (frames : List Frame) → in_force_of es g.base f.start ≡ Some f → g.since ≤ u → Ordered u frames → passed_in f g es frames ≤ left_of g f
    unfolding passed_in
    passed_at_most_left g u [] is old o = omega arith
    passed_at_most_left g u (a ∷ more) is old (next l o) =
        let t = a.time in
        let g' = (gate_step_of g es t a.octets).gate in
        let way = step_way g es t a.octets in
        let is' : in_force_of es g'.base f.start ≡ Some f = rw (way_base g _ _ _ way) is in
        let old' : g'.since ≤ t = way_since g _ _ t _ (λ f' e. in_force_begun es g.base t f' e) (omega arith) way in
        let rest = passed_at_most_left g' t more is' old' o in
        elim (cases_lt t f.start) [
          | inl early ↦ rw (within_early t early) (omega (arith, left_whole g f (λ e. omega arith), left_whole g' f (λ e. omega arith)))
          | inr begun ↦ elim (cases_lt t (f.start + f.entry.interval)) [
            | inl lasts ↦ rw (within_inside t begun lasts) (omega (arith, step_left g t a.octets (in_force_constant es g.base f.start f is t begun lasts)))
            | inr past ↦ rw (within_past t past) (omega (arith, passed_past g' t more past o))
          ]
        ]

-- and so never more than its maximum
pub passed_at_most : (es : List Entry) (g : Gate) (f : Found) (u : ℕ) (frames : List Frame) → in_force_of es g.base f.start ≡ Some f → (f.entry.maximum ≡ no_limit → ⊥) → g.since ≤ u → Ordered u frames
    → passed_in f g es frames ≤ f.entry.maximum
passed_at_most es g f u frames is limited old o = omega (arith, passed_at_most_left f limited es g u frames is old o)
