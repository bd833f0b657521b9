-- The search: what it finds, and what it doesn't depend on.
use Rattle.std.specs.Prelude.{ℕ, zero, suc, ◌+◌, ◌-◌, ◌≤◌, ◌<◌, Bool, true, false, cond, ◌≡◌, List, ltb, length, get_or, take, set, min, max, Some, None}
use Rattle.std.proofs.Common.{true≢false, sym, ap, subst, ◌∙◌, arith, ltb-true, ltb-false, get_or-set_same, get_or-set_other}
use Rattle.std.proofs.Math.Path.{refl}
use Rattle.std.proofs.lemmas.List.{get_or-take, length-take}
use Rattle.std.proofs.lemmas.Option.{some_pair_parts}
use Rattle.std.proofs.Math.Decide.{ℕ_discrete}
use Rattle.std.proofs.Math.ListN.{get_or-eq_default}
use Rattle.std.proofs.Math.Seq.{set_out}
use Rattle.sizes.specs.Meaning.{filter_count}
use Rattle.bank.specs.Meaning.{Rows}
use Rattle.filter.specs.declared.Filter.{Filter}
use Rattle.filter.specs.declared.Key.{Key}
use Rattle.filter.specs.Meaning.{no_row, is_filter_of, counts_of, row_of, Asks, Fits, Any, Question, of_every_place, row_answers, first_found, search_from, search_of}
use Rattle.filter.specs.Search.{first_of_all}
use Rattle.filter.proofs.Laws.{SameParts, Asking, answers_asked, answers_same, answers_empty, answers_spoiled, answers_no_filter}

-- ---- the table as far as a search goes

pub row_within : (rows : List Filter) (n i : ℕ) → i < length (take n rows) → get_or (take n rows) i no_row ≡ row_of rows i
row_within rows n i h = get_or-take n rows i no_row (omega (arith, h, length-take n rows))

-- ---- the first row that passes a test

module _ (test : Filter → Bool) (rows : List Filter) where
  -- a place at a time, as a loop goes up to and without `end`
  first_turn : (end i : ℕ) → i < end → first_found test rows i (end - i) ≡ cond (test (row_of rows i)) (Some (i, row_of rows i)) (first_found test rows (i + 1) (end - (i + 1)))
  first_turn end i h = ap (first_found test rows i) (one_less h)
    where
      one_less : i < end → end - i ≡ suc (end - (i + 1))
      one_less h = omega (arith, h)

  first_hit : (end i : ℕ) → i < end → test (row_of rows i) ≡ true → first_found test rows i (end - i) ≡ Some (i, row_of rows i)
  first_hit end i h e = first_turn end i h ∙ ap (λ (t : Bool). cond t (Some (i, row_of rows i)) (first_found test rows (i + 1) (end - (i + 1)))) e

  first_next : (end i : ℕ) → i < end → test (row_of rows i) ≡ false → first_found test rows i (end - i) ≡ first_found test rows (i + 1) (end - (i + 1))
  first_next end i h e = first_turn end i h ∙ ap (λ (t : Bool). cond t (Some (i, row_of rows i)) (first_found test rows (i + 1) (end - (i + 1)))) e

  first_over : (end i : ℕ) → end ≤ i → first_found test rows i (end - i) ≡ None
  first_over end i h = ap (first_found test rows i) (none_left h)
    where
      none_left : end ≤ i → end - i ≡ 0
      none_left h = omega (arith, h)

  -- rows that don't pass can be passed over
  first_past : (end i n : ℕ) → i + n ≤ end → ((j : ℕ) → i ≤ j → j < i + n → test (row_of rows j) ≡ false) → first_found test rows i (end - i) ≡ first_found test rows (i + n) (end - (i + n))
  first_past end i zero h none = ap (λ (k : ℕ). first_found test rows k (end - k)) (omega arith)
  first_past end i (suc n) h none =
      first_next end i (omega (arith, h)) (none i (omega arith) (omega arith)) ∙ first_past end (i + 1) n (omega (arith, h)) (λ j l u. none j (omega (arith, l)) (omega (arith, u)))
      ∙ ap (λ (k : ℕ). first_found test rows k (end - k)) (omega arith)

  -- the first place from `from` on
  pub first_at : (from to i : ℕ) → from ≤ i → i < to → test (row_of rows i) ≡ true → ((k : ℕ) → from ≤ k → k < i → test (row_of rows k) ≡ false) → first_found test rows from (to - from) ≡ Some (i, row_of rows i)
  first_at from to i low high hits none =
      first_past to from (i - from) (omega (arith, low, high)) (λ j l u. none j l (omega (arith, u, low))) ∙ ap (λ (k : ℕ). first_found test rows k (to - k)) (reached low) ∙ first_hit to i high hits
    where
      reached : from ≤ i → from + (i - from) ≡ i
      reached h = omega (arith, h)

  -- none, where no place passes
  first_none : (i n : ℕ) → ((j : ℕ) → i ≤ j → j < i + n → test (row_of rows j) ≡ false) → first_found test rows i n ≡ None
  first_none i zero none = refl
  first_none i (suc n) none =
      ap (λ (t : Bool). cond t (Some (i, row_of rows i)) (first_found test rows (i + 1) n)) (none i (omega arith) (omega arith))
      ∙ first_none (i + 1) n (λ j l u. none j (omega (arith, l)) (omega (arith, u)))

  -- none, where no row of the table passes, nor the empty one where it is asked
  pub first_nowhere : (from to i : ℕ) → min (length rows) to ≤ i → ((k : ℕ) → from ≤ k → k < i → test (row_of rows k) ≡ false) → (max (length rows) from < to → test no_row ≡ false) → first_found test rows from (to - from) ≡ None
  first_nowhere from to i far none empty = first_none from (to - from) (λ j l u. by_place j l (omega (arith, l, u)) (ltb j (length rows)) refl)
    where
      by_place : (j : ℕ) → from ≤ j → j < to → (t : Bool) → ltb j (length rows) ≡ t → test (row_of rows j) ≡ false
      by_place j l u true e = none j l (omega (arith, far, u, ltb-true j (length rows) e))
      by_place j l u false e = ap test (get_or-eq_default rows no_row (ltb-false j (length rows) e)) ∙ empty (omega (arith, l, u, ltb-false j (length rows) e))

  -- the first place past the table's end, where the empty row passes and none of the table does
  pub first_past_end : (from to i : ℕ) → min (length rows) to ≤ i → ((k : ℕ) → from ≤ k → k < i → test (row_of rows k) ≡ false) → max (length rows) from < to → test no_row ≡ true
      → first_found test rows from (to - from) ≡ Some (max (length rows) from, no_row)
  first_past_end from to i far none within hits =
      first_at from to (max (length rows) from) (omega arith) within (ap test empty ∙ hits) (λ k l u. none k l (omega (arith, far, l, u, within))) ∙ ap (λ (row : Filter). Some (max (length rows) from, row)) empty
    where
      empty : row_of rows (max (length rows) from) ≡ no_row
      empty = get_or-eq_default rows no_row (omega arith)

  -- a place more of which the row doesn't pass
  pub all_before : (from i : ℕ) → ((k : ℕ) → from ≤ k → k < i → test (row_of rows k) ≡ false) → test (row_of rows i) ≡ false → (k : ℕ) → from ≤ k → k < i + 1 → test (row_of rows k) ≡ false
  all_before from i none e k l h = by_place (ℕ_discrete k i)
    where
      by_place : Dec (k ≡ i) → test (row_of rows k) ≡ false
      by_place (yes p) = ap (λ (j : ℕ). test (row_of rows j)) p ∙ e
      by_place (no p) = none k l (omega (arith, h, p))

  -- what is found among the places from i up to and without `end`
  pub record Finds (i end k : ℕ) (row : Filter) : Type 0 where
    pub low : i ≤ k
    pub high : k < end
    pub there : row ≡ row_of rows k
    pub passes : test row ≡ true
    pub first : (j : ℕ) → i ≤ j → j < k → test (row_of rows j) ≡ false

  first_finds : (i n k : ℕ) (row : Filter) → first_found test rows i n ≡ Some (k, row) → Finds i (i + n) k row
  first_finds i zero k row e = absurd (let z : ◌≡◌ {A = ℕ} 0 1 = cc in omega arith)
  first_finds i (suc n) k row e = by_test (test (row_of rows i)) refl e (first_finds (i + 1) n k row)
    where
      by_test : (t : Bool) → test (row_of rows i) ≡ t → cond t (Some (i, row_of rows i)) (first_found test rows (i + 1) n) ≡ Some (k, row)
          → (first_found test rows (i + 1) n ≡ Some (k, row) → Finds (i + 1) (i + 1 + n) k row) → Finds i (i + suc n) k row
      by_test true h g rest =
          let parts = some_pair_parts i k (row_of rows i) row g in
          let p = parts.0 in
          let r = sym parts.1 in
          record { low = omega (arith, p); high = omega (arith, p); there = r ∙ ap (row_of rows) p; passes = ap test r ∙ h; first = λ j l u. absurd (omega (arith, l, u, p)) }
      by_test false h g rest =
          let f = rest g in
          record { low = omega (arith, f.low); high = omega (arith, f.high); there = f.there; passes = f.passes; first = λ j l u. by_place j l u (ℕ_discrete j i) f }
        where
          by_place : (j : ℕ) → i ≤ j → j < k → Dec (j ≡ i) → Finds (i + 1) (i + 1 + n) k row → test (row_of rows j) ≡ false
          by_place j l u (yes p) f = ap (λ (m : ℕ). test (row_of rows m)) p ∙ h
          by_place j l u (no p) f = f.first j (omega (arith, l, p)) u

  first_nothing : (i n : ℕ) → first_found test rows i n ≡ None → (j : ℕ) → i ≤ j → j < i + n → test (row_of rows j) ≡ false
  first_nothing i zero e j l u = absurd (omega (arith, l, u))
  first_nothing i (suc n) e j l u = by_test (test (row_of rows i)) refl e (ℕ_discrete j i) (first_nothing (i + 1) n)
    where
      by_test : (t : Bool) → test (row_of rows i) ≡ t → cond t (Some (i, row_of rows i)) (first_found test rows (i + 1) n) ≡ None → Dec (j ≡ i)
          → (first_found test rows (i + 1) n ≡ None → (j : ℕ) → i + 1 ≤ j → j < i + 1 + n → test (row_of rows j) ≡ false) → test (row_of rows j) ≡ false
      by_test true h g d rest = absurd (let z : ◌≡◌ {A = ℕ} 0 1 = cc in omega arith)
      by_test false h g (yes p) rest = ap (λ (m : ℕ). test (row_of rows m)) p ∙ h
      by_test false h g (no p) rest = rest g j (omega (arith, l, p)) (omega (arith, u))

-- two tables whose rows pass alike, and are equal where they pass
first_alike : (test test' : Filter → Bool) (rows rows' : List Filter) → ((j : ℕ) → test (row_of rows j) ≡ test' (row_of rows' j)) → ((j : ℕ) → test (row_of rows j) ≡ true → row_of rows j ≡ row_of rows' j)
    → (i n : ℕ) → first_found test rows i n ≡ first_found test' rows' i n
first_alike test test' rows rows' tests same i zero = refl
first_alike test test' rows rows' tests same i (suc n) =
    by_test (test (row_of rows i)) refl (first_alike test test' rows rows' tests same (i + 1) n) ∙ ap (λ (t : Bool). cond t (Some (i, row_of rows' i)) (first_found test' rows' (i + 1) n)) (tests i)
  where
    by_test : (t : Bool) → test (row_of rows i) ≡ t → first_found test rows (i + 1) n ≡ first_found test' rows' (i + 1) n
        → cond t (Some (i, row_of rows i)) (first_found test rows (i + 1) n) ≡ cond t (Some (i, row_of rows' i)) (first_found test' rows' (i + 1) n)
    by_test true h rest = ap (λ (row : Filter). Some (i, row)) (same i h)
    by_test false h rest = rest

-- ---- the search, a place at a time

module _ (s : Rows) (q : Question) (rows : List Filter) where
  pub search_begins : search_from s q rows q.from ≡ search_of s q rows
  unfolding search_of
  search_begins = refl

  pub search_hit : (i : ℕ) → i < q.to → row_answers s q (row_of rows i) ≡ true → search_from s q rows i ≡ Some (i, row_of rows i)
  search_hit = first_hit (row_answers s q) rows q.to

  pub search_next : (i : ℕ) → i < q.to → row_answers s q (row_of rows i) ≡ false → search_from s q rows i ≡ search_from s q rows (i + 1)
  search_next = first_next (row_answers s q) rows q.to

  pub search_over : (i : ℕ) → q.to ≤ i → search_from s q rows i ≡ None
  search_over = first_over (row_answers s q) rows q.to

  pub search_past : (i n : ℕ) → i + n ≤ q.to → ((j : ℕ) → i ≤ j → j < i + n → row_answers s q (row_of rows j) ≡ false) → search_from s q rows i ≡ search_from s q rows (i + n)
  search_past = first_past (row_answers s q) rows q.to

  -- ---- it finds the first row that answers, and nothing else

  -- how many places are asked
  asks_to : (i k : ℕ) → i ≤ k → k < i + (q.to - i) → k < q.to
  asks_to i k l u = omega (arith, l, u)

  pub search_finds : (k : ℕ) (row : Filter) → search_of s q rows ≡ Some (k, row) → Finds (row_answers s q) rows q.from q.to k row
  unfolding search_of
  search_finds k row e =
      let f = first_finds (row_answers s q) rows q.from (q.to - q.from) k row e in
      record { low = f.low; high = asks_to q.from k f.low f.high; there = f.there; passes = f.passes; first = f.first }

  pub search_nothing : search_of s q rows ≡ None → (j : ℕ) → q.from ≤ j → j < q.to → row_answers s q (row_of rows j) ≡ false
  unfolding search_of
  search_nothing e j l u = first_nothing (row_answers s q) rows q.from (q.to - q.from) e j l (omega (arith, l, u))

  -- and so no other place is found
  pub search_only : (i : ℕ) → q.from ≤ i → i < q.to → row_answers s q (row_of rows i) ≡ true → ((j : ℕ) → q.from ≤ j → j < i → row_answers s q (row_of rows j) ≡ false) → search_of s q rows ≡ Some (i, row_of rows i)
  search_only i low high hits none =
      sym search_begins ∙ search_past q.from (i - q.from) (omega (arith, low, high)) (λ j l u. none j l (omega (arith, u, low)))
      ∙ ap (search_from s q rows) (reached q.from low) ∙ search_hit i high hits
    where
      reached : (k : ℕ) → k ≤ i → k + (i - k) ≡ i
      reached k h = omega (arith, h)

  -- one place, of which nothing is asked
  pub search_one : q.asks ≡ Any → q.to ≡ q.from + 1 → search_of s q rows ≡ Some (q.from, row_of rows q.from)
  search_one asks to = sym search_begins ∙ search_hit q.from (omega (arith, to)) (answers_asked s (row_of rows q.from) q Any asks)

-- the search from a place on, of what is asked of every place
pub search_rest : (s : Rows) (rows : List Filter) (asks : Asks) (key : Key) (from : ℕ) → search_of s (record { from = from; to = filter_count; asks = asks; key = key }) rows ≡ search_from s (of_every_place asks key) rows from
unfolding search_of row_answers
search_rest s rows asks key from = refl

-- the search of every place, as the code does it for start
pub search_whole : (s : Rows) (rows : List Filter) (asks : Asks) (key : Key) → first_of_all (row_answers s (of_every_place asks key)) rows ≡ search_of s (of_every_place asks key) rows
unfolding search_of first_of_all
search_whole s rows asks key = refl

-- ---- the search depends on the rows' answers alone

pub search_alike : (s s' : Rows) (q : Question) (rows : List Filter) → ((j : ℕ) → row_answers s q (row_of rows j) ≡ row_answers s' q (row_of rows j)) → search_of s q rows ≡ search_of s' q rows
unfolding search_of
search_alike s s' q rows h = first_alike (row_answers s q) (row_answers s' q) rows rows h (λ j e. refl) q.from (q.to - q.from)

-- of the bank, on what is set up, on the bursts and on the largest overhead
pub search_same : (s s' : Rows) (q : Question) (rows : List Filter) → SameParts s s' → search_of s q rows ≡ search_of s' q rows
search_same s s' q rows same = search_alike s s' q rows (λ j. answers_same s s' same (row_of rows j) q)

-- ---- a place that is emptied

row_emptied : (rows : List Filter) (i : ℕ) → row_of (set rows i no_row) i ≡ no_row
row_emptied rows i = by_test (ltb i (length rows)) refl
  where
    by_test : (t : Bool) → ltb i (length rows) ≡ t → row_of (set rows i no_row) i ≡ no_row
    by_test true e = get_or-set_same rows i no_row no_row (ltb-true i (length rows) e)
    by_test false e = ap (λ (l : List Filter). row_of l i) (set_out rows i no_row (ltb-false i (length rows) e)) ∙ get_or-eq_default rows no_row (ltb-false i (length rows) e)

emptied : (s : Rows) (q : Question) (rows : List Filter) (i : ℕ) → Asking q.asks → row_answers s q (row_of rows i) ≡ false → search_of s q (set rows i no_row) ≡ search_of s q rows
unfolding search_of
emptied s q rows i asks e = sym (first_alike (row_answers s q) (row_answers s q) rows (set rows i no_row) (λ j. answers_at j (ℕ_discrete j i)) (λ j h. row_there j h (ℕ_discrete j i)) q.from (q.to - q.from))
  where
    answers_at : (j : ℕ) → Dec (j ≡ i) → row_answers s q (row_of rows j) ≡ row_answers s q (row_of (set rows i no_row) j)
    answers_at j (yes p) =
        ap (λ (k : ℕ). row_answers s q (row_of rows k)) p ∙ e ∙ sym (answers_empty s q asks) ∙ ap (row_answers s q) (sym (row_emptied rows i)) ∙ ap (λ (k : ℕ). row_answers s q (row_of (set rows i no_row) k)) (sym p)
    answers_at j (no p) = ap (row_answers s q) (sym (get_or-set_other rows i j no_row no_row p))

    row_there : (j : ℕ) → row_answers s q (row_of rows j) ≡ true → Dec (j ≡ i) → row_of rows j ≡ row_of (set rows i no_row) j
    row_there j h (yes p) = absurd (true≢false (sym h ∙ ap (λ (k : ℕ). row_answers s q (row_of rows k)) p ∙ e))
    row_there j h (no p) = sym (get_or-set_other rows i j no_row no_row p)

-- a row that doesn't count is as good as none: no frame finds another row where its place is emptied (01: "a spoiled table does no harm")
pub search_spoiled : (s : Rows) (q : Question) (rows : List Filter) (i : ℕ) → q.asks ≡ Fits → counts_of s (row_of rows i) ≡ false → search_of s q (set rows i no_row) ≡ search_of s q rows
search_spoiled s q rows i a e = emptied s q rows i (subst Asking (sym a) tt) (answers_spoiled s q (row_of rows i) a e)

-- nor does start look at a row that is no filter
pub search_no_filter : (s : Rows) (q : Question) (rows : List Filter) (i : ℕ) → Asking q.asks → is_filter_of (row_of rows i) ≡ false → search_of s q (set rows i no_row) ≡ search_of s q rows
search_no_filter s q rows i asks e = emptied s q rows i asks (answers_no_filter s q (row_of rows i) asks e)
