-- Words as rows of eight: the state is its rows, and a store into a row changes that row alone.
use Rattle.std.specs.Prelude.{◌≡◌, ℕ, ◌+◌, ◌*◌, ◌/◌, ◌%◌, ◌<◌, ◌≤◌, ◌≢◌, List, length, slice_index, slice_set, refl}
use Rattle.std.proofs.Common.{ap, sym, ◌∙◌, arith, eq-eqb, ne_eqb, ext_get_or, ◌++◌, take, drop}
use Rattle.std.proofs.Math.Seq.{take_all, paste}
use Rattle.std.proofs.lemmas.List.Edits.{sets, sets-eq}
use Rattle.std.proofs.Math.Path.{fun_ext}
use Rattle.std.proofs.Math.Decide.{ℕ_discrete}
use Rattle.sizes.specs.Meaning.{row_words}
use Rattle.bank.specs.Meaning.{store, Rows, rows_in, with_row}
use Rattle.bank.proofs.Store.{store_is, load_same, load_apart, get_d_load, load_set, load_untouched}

pub row_same : (s : Rows) (r : ℕ) (vs : List ℕ) → with_row s r vs r ≡ vs
unfolding with_row
row_same s r vs = rw (eq-eqb r r refl)

pub row_other : (s : Rows) (r : ℕ) (vs : List ℕ) (q : ℕ) → q ≢ r → with_row s r vs q ≡ s q
unfolding with_row
row_other s r vs q h = rw (ne_eqb q r h)

-- of two stores into a row the second holds
module _ (s : Rows) (r : ℕ) (us vs : List ℕ) where
  at_again : (q : ℕ) → Dec (q ≡ r) → with_row (with_row s r us) r vs q ≡ with_row s r vs q
  at_again q (yes e) = rw e (row_same (with_row s r us) r vs ∙ sym (row_same s r vs))
  at_again q (no h) = row_other (with_row s r us) r vs q h ∙ row_other s r us q h ∙ sym (row_other s r vs q h)

  pub row_again : with_row (with_row s r us) r vs ≡ with_row s r vs
  row_again = fun_ext (λ q. at_again q (ℕ_discrete q r))

-- a store of what is made from the row after another store into it
pub row_twice : (t s : Rows) (r : ℕ) (vs : List ℕ) (f : List ℕ → List ℕ) → t ≡ with_row s r vs → with_row t r (f (t r)) ≡ with_row s r (f vs)
row_twice t s r vs f e = ap (λ (u : Rows). with_row u r (f (u r))) e ∙ ap (λ (row : List ℕ). with_row (with_row s r vs) r (f row)) (row_same s r vs) ∙ row_again s r vs (f vs)

-- what a store leaves as it was in its own row, it leaves so in every row
module _ {A : Type 0} (f : List ℕ → A) (s : Rows) (r : ℕ) (vs : List ℕ) (h : f vs ≡ f (s r)) where
  at_kept : (q : ℕ) → Dec (q ≡ r) → f (with_row s r vs q) ≡ f (s q)
  at_kept q (yes e) = rw e (ap f (row_same s r vs) ∙ h)
  at_kept q (no n) = ap f (row_other s r vs q n)

  pub row_kept : (q : ℕ) → f (with_row s r vs q) ≡ f (s q)
  row_kept q = at_kept q (ℕ_discrete q r)

-- what holds of a row and of what is stored holds of the row after the store
module _ (P : List ℕ → Type 0) (s : Rows) (r : ℕ) (vs : List ℕ) (h : P vs) where
  at_held : (q : ℕ) → P (s q) → Dec (q ≡ r) → P (with_row s r vs q)
  at_held q k (yes e) = rw (e, row_same s r vs) h
  at_held q k (no n) = rw (row_other s r vs q n) k

  pub row_holds : (q : ℕ) → P (s q) → P (with_row s r vs q)
  row_holds q k = at_held q k (ℕ_discrete q r)

-- a store of a whole row at row r
abbrev pub put_row : List ℕ → ℕ → List ℕ → List ℕ
put_row ws r vs = store ws (r * row_words) 0 vs

module _ (ws : List ℕ) (r : ℕ) (vs : List ℕ) (whole : length vs ≡ row_words) (fits : r * row_words + row_words ≤ length ws) where
  at_row : (q : ℕ) → Dec (q ≡ r) → rows_in (put_row ws r vs) q ≡ with_row (rows_in ws) r vs q
  at_row q (yes e) =
      rw e ((rw whole at (load_same ws (r * row_words) 0 vs (omega arith))) ∙ sym (row_same (rows_in ws) r vs))
  at_row q (no h) = load_apart ws (r * row_words) vs (q * row_words) row_words (omega arith) ∙ sym (row_other (rows_in ws) r vs q h)

  pub rows_put : rows_in (put_row ws r vs) ≡ with_row (rows_in ws) r vs
  rows_put = fun_ext (λ q. at_row q (ℕ_discrete q r))

-- the same, as the code does it: n words of a row, which are all of them, stored one after another
pub row_put : (ws : List ℕ) (r n : ℕ) (vs : List ℕ) → n ≡ row_words → length vs ≡ row_words → r * row_words + row_words ≤ length ws → rows_in (paste ws (r * row_words) vs n) ≡ with_row (rows_in ws) r vs
row_put ws r n vs all whole fits =
    let at = r * row_words in
    let stored : paste ws at vs n ≡ store ws at 0 vs =
    (λ i. take at ws ++ take_all n vs (omega (arith, all, whole)) i ++ drop (at + (all ∙ sym whole) i) ws)
    ∙ sym (store_is ws at 0 vs ∙ ap (λ (k : ℕ). sets ws k vs) (omega arith) ∙ sets-eq vs ws at (omega (arith, whole, fits))) in
    ap rows_in stored ∙ rows_put ws r vs whole fits

-- a store of one word, the k-th of row r
module _ (ws : List ℕ) (r k v : ℕ) (in_row : k < row_words) (fits : r * row_words + row_words ≤ length ws) where
  at_cell : (q : ℕ) → Dec (q ≡ r) → rows_in (slice_set ws (r * row_words + k) v) q ≡ with_row (rows_in ws) r (slice_set (rows_in ws r) k v) q
  at_cell q (yes e) =
      rw e (load_set ws (r * row_words + k) v (r * row_words) 0 row_words k (omega arith) in_row (omega arith) ∙ sym (row_same (rows_in ws) r (slice_set (rows_in ws r) k v)))
  at_cell q (no h) =
      load_untouched ws (r * row_words + k) v (q * row_words) 0 row_words (omega arith) ∙ sym (row_other (rows_in ws) r (slice_set (rows_in ws r) k v) q h)

  pub cell_put : rows_in (slice_set ws (r * row_words + k) v) ≡ with_row (rows_in ws) r (slice_set (rows_in ws r) k v)
  cell_put = fun_ext (λ q. at_cell q (ℕ_discrete q r))

pub cell_get : (ws : List ℕ) (r k : ℕ) → k < row_words → slice_index ws (r * row_words + k) ≡ slice_index (rows_in ws r) k
cell_get ws r k h = ap (λ (x : ℕ). slice_index ws x) (omega arith) ∙ sym (get_d_load ws (r * row_words) 0 row_words k h)

-- the rows tell the words: nothing is left out of the state
word_of_row : (ws : List ℕ) (i : ℕ) → slice_index ws i ≡ slice_index (rows_in ws (i / row_words)) (i % row_words)
word_of_row ws i = ap (λ (x : ℕ). slice_index ws x) (omega arith) ∙ sym (get_d_load ws (i / row_words * row_words) 0 row_words (i % row_words) (omega arith))

pub rows_tell : (ws vs : List ℕ) → length ws ≡ length vs → rows_in ws ≡ rows_in vs → ws ≡ vs
rows_tell ws vs e h =
    ext_get_or 0 ws vs e
    (λ i _. word_of_row ws i ∙ ap (λ (s : Rows). slice_index (s (i / row_words)) (i % row_words)) h ∙ sym (word_of_row vs i))
