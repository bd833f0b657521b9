-- A list whose first i places have the first i of those that stood from `from` to `end`, and whose other places are as they were.
-- Assumes nothing.
use Rattle.std.specs.Prelude.{◌≡◌, ℕ, ◌+◌, ◌-◌, ◌<◌, min, List, ◌++◌, length, get_or, set, take, drop}
use Rattle.std.proofs.Common.{sym, ap, ◌∙◌, zero-add, add_comm, add-one, arith, length-take, length-drop}
use Rattle.std.proofs.Math.Seq.{slice, take-length, get_or-append-add, get_or-drop, get_or-take, paste-suc}
use Rattle.pieces.specs.Meaning.{Kept, kept_of}

module _ (xs : List ℕ) (from end : ℕ) where
  abbrev left : List ℕ
  left = slice from end xs

  abbrev pub moved : ℕ → List ℕ
  moved i = take i left ++ drop i xs

  left_length : length left ≡ min end (length xs) - from
  left_length = length-drop from (take end xs) ∙ ap (λ (n : ℕ). n - from) (length-take end xs)

  module _ (i : ℕ) (l : i < min end (length xs) - from) where
    here : i < length left
    here = omega (arith, left_length)

    -- the place that is read is not written yet
    read : get_or (moved i) (from + i) 0 ≡ get_or left i 0
    read =
        ap (λ (k : ℕ). get_or (moved i) k 0) (omega (arith, length-take i left, left_length))
        ∙ get_or-append-add (take i left) (drop i xs) from 0
        ∙ get_or-drop i xs from 0
        ∙ ap (λ (k : ℕ). get_or xs k 0) (add_comm i from)
        ∙ sym (get_or-take end xs (from + i) 0 (omega arith))
        ∙ sym (get_or-drop from (take end xs) i 0)

    pub moved_next : set (moved i) i (get_or (moved i) (from + i) 0) ≡ moved (i + 1)
    moved_next = ap (set (moved i) i) read ∙ rw add-one (simp zero-add at (paste-suc xs 0 left i 0 (omega arith) here))

  pub moved_all : (ys : List ℕ) (n : ℕ) → n ≡ min end (length xs) - from → ys ≡ moved n → ◌≡◌ {A = Kept} (record { buffer = ys; waiting = n }) (kept_of xs from end)
  unfolding kept_of
  moved_all ys n e m = rw (m, e, ← left_length, take-length)
