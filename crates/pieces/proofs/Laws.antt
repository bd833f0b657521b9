-- What is kept of a piece, and what is read behind it. Assumes nothing.
use Rattle.std.specs.Prelude.{ℕ, ◌+◌, ◌-◌, ◌≤◌, min, ◌≡◌, List, [], ◌++◌, length, take, drop}
use Rattle.std.specs.List.{copy_within}
use Rattle.std.proofs.Common.{sym, ap, ◌∙◌, append-nil, zero-add, arith, length-take, length-take-le, length-drop, length-append, take-take, take-add}
use Rattle.std.proofs.Math.Seq.{slice}
use Rattle.std.proofs.lemmas.List.{take-append-le, take_min, drop_min, drop-take}
use Rattle.pieces.specs.Meaning.{Fills, Kept, kept_of}

-- of what is kept no more waits than was there
pub waiting_at_most : (buf : List ℕ) (from end : ℕ) → (kept_of buf from end).waiting ≤ end
unfolding kept_of
waiting_at_most buf from end = omega (arith, length-drop from (take end buf), length-take end buf)

-- what a copy to the front leaves there
module _ (buf : List ℕ) (from end at to : ℕ) (a : at ≡ min from to) (t : to ≡ min end (length buf)) where
  copied_part : slice from end buf ≡ take (to - at) (drop at buf)
  copied_part =
      ap (drop from) (sym (ap (λ (k : ℕ). take k buf) t ∙ take_min end buf))
      ∙ sym (drop_min from (take to buf))
      ∙ ap (λ (k : ℕ). drop k (take to buf)) (ap (min from) (length-take-le to buf (omega arith)) ∙ sym a)
      ∙ ap (λ (k : ℕ). drop at (take k buf)) (omega arith)
      ∙ drop-take at (to - at) buf

  copied_length : length (slice from end buf) ≡ to - at
  copied_length = ap length copied_part ∙ length-take-le (to - at) (drop at buf) (omega (arith, length-drop at buf))

  pub copied : (after : List ℕ) → after ≡ copy_within buf at to 0 → ◌≡◌ {A = Kept} (record { buffer = after; waiting = to - at }) (kept_of buf from end)
  unfolding kept_of
  copied after e = rw (e, zero-add, ← copied_part, copied_length)

-- as far as the list goes
take_within : (n : ℕ) (xs : List ℕ) (k : ℕ) → k ≡ min n (length xs) → take k xs ≡ take n xs
take_within n xs k e = ap (λ (j : ℕ). take j xs) e ∙ take_min n xs

module _ (before after : List ℕ) (kept at : ℕ) (e : at ≡ min kept (length before)) where
  -- no octet was asked for
  pub fills_none : after ≡ before → Fills before kept after at
  fills_none same = record {
    read = [];
    there = ap (take at) same ∙ take_within kept before at e ∙ sym (append-nil (take kept before));
    within = omega (arith, e, ap length same);
  }

  -- the octets before `at` are as they were
  pub fills_some : (n : ℕ) → take at after ≡ take at before → take (at + n) after ≡ take kept before ++ take n (drop at after)
  fills_some n front = take-add at n after ∙ ap (λ (xs : List ℕ). xs ++ take n (drop at after)) (front ∙ take_within kept before at e)

  -- what a read has put behind them
  pub fills_read : (n end : ℕ) (new post : List ℕ) → end ≡ at + n → n ≤ length new → after ≡ take at before ++ (new ++ post) → Fills before kept after end
  fills_read n end new post sum within is = record {
    read = take n (drop at after);
    there = ap (λ (k : ℕ). take k after) sum ∙ fills_some n (ap (take at) is ∙ take-append-le at (take at before) (new ++ post) (omega (arith, length-take at before, e)) ∙ take-take at at before (omega arith));
    within = omega (arith, e, ap length is, length-append (take at before) (new ++ post), length-append new post, length-take at before);
  }

-- what is kept stays where it is
module _ (before after : List ℕ) (kept end : ℕ) (f : Fills before kept after end) (l : kept ≤ length before) where
  pub kept_below : kept ≤ end
  kept_below = omega (arith, l, f.within, ap length f.there, length-take end after, length-take kept before, length-append (take kept before) f.read)

  pub kept_stays : take kept after ≡ take kept before
  kept_stays =
      sym (take-take kept end after kept_below)
      ∙ ap (take kept) f.there
      ∙ take-append-le kept (take kept before) f.read (omega (arith, l, length-take kept before))
      ∙ take-take kept kept before (omega arith)
