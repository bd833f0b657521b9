-- Passing rows over: a frame's handle alone rules out most rows, and the search need not ask those. Not part of what document 01 says: `sought`
-- of `proofs/SeekLaws.antt` tells that the search finds the same.
use Rattle.std.specs.Prelude.{ℕ, zero, suc, ◌+◌, ◌-◌, Bool, ◌||◌, cond, List, eqb, ltb, length}
use Rattle.filter.specs.declared.Filter.{Filter}
use Rattle.filter.specs.Meaning.{row_of, Asks, Fits, Missing, ExceedsBurst, Any, Question}

-- ---- the first place at which a test holds

-- the first of n places from i on at which the test holds, or the place after them
abbrev pub first_of : (ℕ → Bool) → ℕ → ℕ → ℕ
first_of test i zero = i
first_of test i (suc n) = cond (test i) i (first_of test (i + 1) n)

-- ---- which rows are passed over

-- a row that a frame's handle doesn't rule out
unfoldable pub near_of : ℕ → Filter → Bool
near_of handle f = eqb f.handle handle || eqb f.any_handle 1

-- up to which place rows are passed over: for a frame, all that are asked and that the table has; for start, none
abbrev pub passable : Asks → ℕ → ℕ → ℕ
passable Fits to n = cond (ltb to n) to n
passable Missing to n = 0
passable ExceedsBurst to n = 0
passable Any to n = 0

unfoldable pub passable_of : Question → ℕ → ℕ
passable_of q n = passable q.asks q.to n

-- the first place from i on that isn't passed over
unfoldable pub seek_of : Question → List Filter → ℕ → ℕ
seek_of q rows i = first_of (λ j. near_of q.key.handle (row_of rows j)) i (passable_of q (length rows) - i)
