-- The cases of a run, as the code has them.
use Rattle.std.specs.Prelude.{◌≡◌, ℕ, zero, suc, ◌+◌, ◌-◌, ◌<◌, ◌≤◌, Bool, true, false, cond, List, length, take, drop, nat_le, refl}
use Rattle.std.proofs.Common.{sym, ap, ◌∙◌, arith, length-drop, drop_of_length-le, take_all, leb-true, leb-false, le-leb}
use Rattle.std.proofs.lemmas.Bool.{lt-leb}
use Rattle.verdict.specs.Meaning.{Answer}
use Rattle.stage.specs.Meaning.{Bridge, Took, take_of}
use Rattle.text.specs.Meaning.{Page, written, line_room}
use Rattle.run.specs.declared.Progress.{Progress}
use Rattle.run.specs.Meaning.{advanced_of, room_of, Printed, printed, printed_of, said_of, moved_of, next_of, Ran, ran_to, piece_run_of}

-- ---- room for a line

pub room_never : (w : Page) → length w.octets < line_room → false ≡ room_of w
room_never w l = sym (lt-leb (w.filled + line_room) (length w.octets) (omega (arith, l)))

pub room_some : (w : Page) → line_room ≤ length w.octets → nat_le w.filled (length w.octets - line_room) ≡ room_of w
room_some w l = by_test (nat_le w.filled (length w.octets - line_room)) refl
  where
    by_test : (z : Bool) → nat_le w.filled (length w.octets - line_room) ≡ z → z ≡ room_of w
    by_test true e = sym (le-leb (w.filled + line_room) (length w.octets) (omega (arith, l, leb-true w.filled (length w.octets - line_room) e)))
    by_test false e = sym (lt-leb (w.filled + line_room) (length w.octets) (omega (arith, l, leb-false w.filled (length w.octets - line_room) e)))

-- ---- an arrival

module _ (w : Page) (p r : Progress) (used a : ℕ) (line : ℕ → List ℕ) (ea : a ≡ next_of p) where
  pub told_quiet : p.quiet ≡ true → r ≡ advanced_of p used a (room_of w) → printed w r ≡ moved_of p used (next_of p) (said_of p w (line (next_of p)))
  told_quiet q e =
      ap (printed w) (e ∙ ap (λ (n : ℕ). advanced_of p used n (room_of w)) ea)
      ∙ ap (λ (z : Bool). moved_of p used (next_of p) (cond z w (written w (line (next_of p))))) (sym q)

  pub told_aloud : (v : Page) → p.quiet ≡ false → v ≡ written w (line a) → r ≡ advanced_of p used a (room_of v) → printed v r ≡ moved_of p used (next_of p) (said_of p w (line (next_of p)))
  told_aloud v q h e =
      ap (printed v) (e ∙ ap (λ (n : ℕ). advanced_of p used n (room_of v)) ea)
      ∙ ap (moved_of p used (next_of p)) (h ∙ ap (λ (n : ℕ). written w (line n)) ea)
      ∙ ap (λ (z : Bool). moved_of p used (next_of p) (cond z w (written w (line (next_of p))))) (sym q)

-- ---- the rest of the input

pub rest_some : (s : List ℕ) (at : ℕ) → take (length s - at) (drop at s) ≡ drop at s
rest_some s at = take_all (length s - at) (drop at s) (omega (arith, length-drop at s))

pub rest_none : (s : List ℕ) (at : ℕ) → length s ≤ at → take (length s - length s) (drop (length s) s) ≡ drop at s
rest_none s at l = rest_some s (length s) ∙ drop_of_length-le s {i = length s} (omega arith) ∙ sym (drop_of_length-le s l)

-- ---- a turn of a run

-- a run with no turn left
pub run_over : (k : ℕ) (input : List ℕ) (b : Bridge) (w : Page) (p : Progress) → k ≤ 0 → ran_to b (printed w p) ≡ piece_run_of k input b w p
unfolding piece_run_of
run_over zero input b w p l = refl
run_over (suc k) input b w p l = absurd (omega (arith, l))

-- what the code has: the bridge and the answer after a call of `take`, and what is told of it
module _ (input : List ℕ) (b b' : Bridge) (w w' : Page) (p p' : Progress) (a : Answer)
    (e : record { after = b'; answer = a } ≡ take_of b (drop p.at input)) (f : printed w' p' ≡ printed_of w p a) where
  goes_on : ℕ → Bridge → Printed → Ran
  goes_on m b d = cond d.progress.more (piece_run_of m input b d.page d.progress) (ran_to b d)

  turned : (m : ℕ) → goes_on m b' (printed w' p') ≡ piece_run_of (suc m) input b w p
  unfolding piece_run_of goes_on
  turned m = ap (goes_on m b') f ∙ ap (λ (t : Took). goes_on m t.after (printed_of w p t.answer)) e

  by_more : (m : ℕ) (more : Bool) (r : Ran) → p'.more ≡ more → r ≡ cond more (piece_run_of m input b' w' p') (ran_to b' (printed w' p')) → r ≡ piece_run_of (suc m) input b w p
  unfolding goes_on
  by_more m more r e h = h ∙ ap (λ (z : Bool). cond z (piece_run_of m input b' w' p') (ran_to b' (printed w' p'))) (sym e) ∙ turned m

  -- it goes on
  pub run_on : (m k : ℕ) → 0 < k → m ≡ k - 1 → p'.more ≡ true → piece_run_of m input b' w' p' ≡ piece_run_of k input b w p
  run_on m zero l n more = absurd (omega (arith, l))
  run_on m (suc k) l n more = by_more k true _ more (ap (λ (j : ℕ). piece_run_of j input b' w' p') (omega (arith, n)))

  -- it stops
  pub run_stops : (k : ℕ) → 0 < k → p'.more ≡ false → ran_to b' (printed w' p') ≡ piece_run_of k input b w p
  run_stops zero l more = absurd (omega (arith, l))
  run_stops (suc k) l more = by_more k false _ more refl

-- the turns that are left after one
abbrev pub fewer_of : ℕ → Bool → ℕ
fewer_of turns more = cond more (turns - 1) 0

pub fewer_falls : (k : ℕ) (more : Bool) → 0 < k → fewer_of k more < k
fewer_falls k true l = omega (arith, l)
fewer_falls k false l = l

module _ (input : List ℕ) (b b' : Bridge) (w w' : Page) (p p' : Progress) (part : List ℕ) (a : Answer) where
  pub run_turn : (k j : ℕ) → 0 < k → part ≡ drop p.at input → record { after = b'; answer = a } ≡ take_of b part → printed w' p' ≡ printed_of w p a → j ≡ fewer_of k p'.more
      → piece_run_of j input b' w' p' ≡ piece_run_of k input b w p
  run_turn k j l e₁ e₂ e₃ e₄ = ap (λ (i : ℕ). piece_run_of i input b' w' p') e₄ ∙ by_test p'.more refl
    where
      by_test : (z : Bool) → p'.more ≡ z → piece_run_of (fewer_of k z) input b' w' p' ≡ piece_run_of k input b w p
      by_test true m = run_on input b b' w w' p p' a (e₂ ∙ ap (take_of b) e₁) e₃ (k - 1) k l refl m
      by_test false m = sym (run_over 0 input b' w' p' (omega arith)) ∙ run_stops input b b' w w' p p' a (e₂ ∙ ap (take_of b) e₁) e₃ k l m
