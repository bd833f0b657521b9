-- Of passing rows over: the search finds the same, `sought`.
use Rattle.std.specs.Prelude.{ℕ, zero, suc, ◌+◌, ◌-◌, ◌≤◌, ◌<◌, Bool, true, false, ◌&&◌, ◌||◌, cond, ◌≡◌, refl, List, eqb, ltb, length, min}
use Rattle.std.proofs.Common.{sym, ap, ◌∙◌, arith, ltb-true, ltb-false}
use Rattle.std.proofs.Math.Decide.{ℕ_discrete}
use Rattle.bank.specs.Meaning.{Rows}
use Rattle.sizes.specs.Meaning.{filter_count}
use Rattle.filter.specs.declared.Filter.{Filter}
use Rattle.filter.specs.declared.Key.{Key}
use Rattle.filter.specs.Meaning.{counts_of, fits_of, row_of, Asks, Fits, Missing, ExceedsBurst, Any, Question, of_every_place, row_answers, search_from}
use Rattle.filter.proofs.Laws.{answers_asked}
use Rattle.filter.proofs.SearchLaws.{search_past}
use Rattle.filter.specs.Seek.{first_of, near_of, passable, passable_of, seek_of}

-- ---- the first place at which a test holds

module _ (test : ℕ → Bool) where
  -- a place at a time, as a loop goes up to and without `end`
  first_turn : (end i : ℕ) → i < end → first_of test i (end - i) ≡ cond (test i) i (first_of test (i + 1) (end - (i + 1)))
  first_turn end i h = ap (first_of test i) (one_less h)
    where
      one_less : i < end → end - i ≡ suc (end - (i + 1))
      one_less h = omega (arith, h)

  first_found : (end i : ℕ) → i < end → test i ≡ true → first_of test i (end - i) ≡ i
  first_found end i h e = first_turn end i h ∙ ap (λ (t : Bool). cond t i (first_of test (i + 1) (end - (i + 1)))) e

  first_next : (end i : ℕ) → i < end → test i ≡ false → first_of test i (end - i) ≡ first_of test (i + 1) (end - (i + 1))
  first_next end i h e = first_turn end i h ∙ ap (λ (t : Bool). cond t i (first_of test (i + 1) (end - (i + 1)))) e

  first_over : (end i : ℕ) → end ≤ i → first_of test i (end - i) ≡ i
  first_over end i h = ap (first_of test i) (none_left h)
    where
      none_left : end ≤ i → end - i ≡ 0
      none_left h = omega (arith, h)

  first_from : (i n : ℕ) → i ≤ first_of test i n
  first_from i zero = omega arith
  first_from i (suc n) = by_test (test i) (first_from (i + 1) n)
    where
      by_test : (t : Bool) → i + 1 ≤ first_of test (i + 1) n → i ≤ cond t i (first_of test (i + 1) n)
      by_test true h = omega arith
      by_test false h = omega (arith, h)

  first_to : (i n : ℕ) → first_of test i n ≤ i + n
  first_to i zero = omega arith
  first_to i (suc n) = by_test (test i) (first_to (i + 1) n)
    where
      by_test : (t : Bool) → first_of test (i + 1) n ≤ i + 1 + n → cond t i (first_of test (i + 1) n) ≤ i + suc n
      by_test true h = omega arith
      by_test false h = omega (arith, h)

  first_least : (i n j : ℕ) → i ≤ j → j < first_of test i n → test j ≡ false
  first_least i zero j h l = absurd (omega (arith, h, l))
  first_least i (suc n) j h l = by_test (test i) refl l (ℕ_discrete j i) (first_least (i + 1) n j)
    where
      by_test : (t : Bool) → test i ≡ t → j < cond t i (first_of test (i + 1) n) → Dec (j ≡ i) → (i + 1 ≤ j → j < first_of test (i + 1) n → test j ≡ false) → test j ≡ false
      by_test true e l d k = absurd (omega (arith, h, l))
      by_test false e l (yes p) k = ap test p ∙ e
      by_test false e l (no p) k = k (omega (arith, h, p)) l

-- ---- which rows are passed over

-- what a question asks decides how far
pub passable_asked : (q : Question) (n : ℕ) (a : Asks) → q.asks ≡ a → passable_of q n ≡ passable a q.to n
unfolding passable_of
passable_asked q n a e = ap (λ (k : Asks). passable k q.to n) e

-- for a frame, of every place, all that the table has
pub passable_every : (key : Key) (n : ℕ) → passable_of (of_every_place Fits key) n ≡ min n filter_count
passable_every key n = passable_asked (of_every_place Fits key) n Fits refl ∙ by_test (ltb filter_count n) refl
  where
    by_test : (t : Bool) → ltb filter_count n ≡ t → cond t filter_count n ≡ min n filter_count
    by_test true e = omega (arith, ltb-true filter_count n e)
    by_test false e = omega (arith, ltb-false filter_count n e)

-- a row that is passed over answers no frame
near_answers : (s : Rows) (q : Question) (f : Filter) → q.asks ≡ Fits → near_of q.key.handle f ≡ false → row_answers s q f ≡ false
unfolding near_of fits_of
near_answers s q f a e = answers_asked s f q Fits a ∙ by_tests (eqb f.handle q.key.handle) (eqb f.any_handle 1) (eqb f.priority 8 || eqb f.priority q.key.priority) e
  where
    by_tests : (h y p : Bool) → (h || y) ≡ false → (((y || h) && p) && counts_of s f) ≡ false
    by_tests true y p k = cc
    by_tests false true p k = cc
    by_tests false false p k = refl

module _ (q : Question) (rows : List Filter) where
  abbrev near_at : ℕ → Bool
  near_at j = near_of q.key.handle (row_of rows j)

  abbrev end : ℕ
  end = passable_of q (length rows)

  -- ---- a place at a time, as the loop goes

  pub seek_found : (i : ℕ) → i < end → near_at i ≡ true → seek_of q rows i ≡ i
  unfolding seek_of
  seek_found = first_found near_at end

  pub seek_next : (i : ℕ) → i < end → near_at i ≡ false → seek_of q rows i ≡ seek_of q rows (i + 1)
  unfolding seek_of
  seek_next = first_next near_at end

  pub seek_over : (i : ℕ) → end ≤ i → seek_of q rows i ≡ i
  unfolding seek_of
  seek_over = first_over near_at end

  pub seek_from : (i : ℕ) → i ≤ seek_of q rows i
  unfolding seek_of
  seek_from i = first_from near_at i (end - i)

  -- ---- the search finds the same

  -- none of the places passed over answers, and none is past the question
  module _ (s : Rows) (i : ℕ) where
    within : i < end → seek_of q rows i ≤ end
    unfolding seek_of
    within l = omega (arith, l, first_to near_at i (end - i))

    least : (j : ℕ) → i ≤ j → j < seek_of q rows i → near_at j ≡ false
    unfolding seek_of
    least = first_least near_at i (end - i)

    past : q.asks ≡ Fits → seek_of q rows i ≤ q.to → search_from s q rows i ≡ search_from s q rows (seek_of q rows i)
    past a h =
        search_past s q rows i (seek_of q rows i - i) (omega (arith, h, seek_from i)) (λ j l u. near_answers s q (row_of rows j) a (least j l (omega (arith, u, seek_from i))))
        ∙ ap (search_from s q rows) (reached (seek_of q rows i) (seek_from i))
      where
        reached : (k : ℕ) → i ≤ k → i + (k - i) ≡ k
        reached k h = omega (arith, h)

    pub sought : search_from s q rows (seek_of q rows i) ≡ search_from s q rows i
    sought = by_test (ltb i end) refl
      where
        in_question : i < end → (a : Asks) → q.asks ≡ a → search_from s q rows (seek_of q rows i) ≡ search_from s q rows i
        in_question l Fits a = sym (past a (omega (arith, within l, passable_asked q (length rows) Fits a, at_most (ltb q.to (length rows)) refl)))
          where
            at_most : (t : Bool) → ltb q.to (length rows) ≡ t → cond t q.to (length rows) ≤ q.to
            at_most true e = omega arith
            at_most false e = omega (arith, ltb-false q.to (length rows) e)
        in_question l Missing a = absurd (omega (arith, l, passable_asked q (length rows) Missing a))
        in_question l ExceedsBurst a = absurd (omega (arith, l, passable_asked q (length rows) ExceedsBurst a))
        in_question l Any a = absurd (omega (arith, l, passable_asked q (length rows) Any a))

        by_test : (t : Bool) → ltb i end ≡ t → search_from s q rows (seek_of q rows i) ≡ search_from s q rows i
        by_test true e = in_question (ltb-true i end e) q.asks refl
        by_test false e = ap (search_from s q rows) (seek_over i (ltb-false i end e))
