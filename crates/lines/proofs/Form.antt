-- Laws of a form: what its octets, its marks and what is left of it come to.
use Rattle.std.specs.Prelude.{ℕ, ◌+◌, ◌<◌, ◌≤◌, Bool, false, cond, ◌&&◌, ◌||◌, ◌≡◌, ltb, eqb, drop}
use Prim.Native.Char.{code}
use Rattle.std.specs.Char.{is_ascii_uppercase}
use Rattle.std.proofs.Math.Bool.{true}
use mathlib.Core.List.{List, [], ◌∷◌, ◌++◌, append_assoc}
use Rattle.std.proofs.Math.Path.{refl, ap}
use Rattle.std.proofs.Common.{sym, ◌∙◌, arith, drop-cons}
use Rattle.std.proofs.Math.Numerals.{add-one}
use Rattle.std.proofs.Math.ListN.{length, get_or, length-drop}
use borrow.Author.Tests.{ltb-true, ltb-false, eq-eqb, ne_eqb}
use Rattle.logic.specs.Laws.{both, and_right, by_test}
use Rattle.record.specs.declared.FilterRecord.{FilterRecord}
use Rattle.record.specs.declared.Record.TheVariants.{Filter}
use Rattle.text.specs.Meaning.{Page, put_of, written, ascii, digits_of}
use Rattle.text.proofs.Laws.{written_append}
use Rattle.lines.specs.Meaning.{label_of, line_of}
use Rattle.lines.specs.Form.{shown_as, handle_as, filled_in}

-- ---- a value at its mark, as its mark and the value say

any_of : (a b c : Bool) (x y : List ℕ) → cond (a || b || c) x y ≡ cond a x (cond b x (cond c x y))
any_of true b c x y = refl
any_of false true c x y = refl
any_of false false c x y = refl

module _ (c v : ℕ) where
  abbrev is_any : Bool
  is_any = eqb c (code "A") && eqb v 8

  abbrev is_null : Bool
  is_null = eqb c (code "U") && eqb v 8

  abbrev is_none_word : Bool
  is_none_word = eqb c (code "Z") && eqb v 0 || eqb c (code "L") && eqb v 255 || eqb c (code "M") && eqb v 4_294_967_295

  pub shown_any : is_any ≡ true → ascii "any" ≡ shown_as c v
  unfolding shown_as
  shown_any e = rw e

  pub shown_null : is_any ≡ false → is_null ≡ true → ascii "null" ≡ shown_as c v
  unfolding shown_as
  shown_null e f = rw (e, f)

  -- the three that are `none`, as one test
  joined : cond is_none_word (ascii "none") (digits_of v)
      ≡ cond (eqb c (code "Z") && eqb v 0) (ascii "none") (cond (eqb c (code "L") && eqb v 255) (ascii "none") (cond (eqb c (code "M") && eqb v 4_294_967_295) (ascii "none") (digits_of v)))
  joined = any_of (eqb c (code "Z") && eqb v 0) (eqb c (code "L") && eqb v 255) (eqb c (code "M") && eqb v 4_294_967_295) (ascii "none") (digits_of v)

  pub shown_none : is_any ≡ false → is_null ≡ false → is_none_word ≡ true → ascii "none" ≡ shown_as c v
  unfolding shown_as
  shown_none e f g = rw (e, f, ← joined, g)

  pub shown_number : is_any ≡ false → is_null ≡ false → is_none_word ≡ false → digits_of v ≡ shown_as c v
  unfolding shown_as
  shown_number e f g = rw (e, f, ← joined, g)

module _ (any handle : ℕ) where
  pub handle_any : any ≡ 1 → ascii "any" ≡ handle_as any handle
  handle_any e = rw (eq-eqb any 1 e)

  pub handle_number : (any ≡ 1 → ⊥) → digits_of handle ≡ handle_as any handle
  handle_number n = rw (ne_eqb any 1 n)

-- ---- the form from place i on, put on a page: a mark with a value, an octet that is no mark, and any octet where no value is left

module _ (p : Page) (form : List ℕ) (i : ℕ) (l : i < length form) where
  pub put_mark : (v : ℕ) (vs : List ℕ) → is_ascii_uppercase (get_or form i 0) ≡ true
      → written p (filled_in (drop i form) (v ∷ vs)) ≡ written (written p (shown_as (get_or form i 0) v)) (filled_in (drop (i + 1) form) vs)
  unfolding filled_in
  put_mark v vs e = rw (drop-cons form i 0 l, add-one i, e) (written_append p _ _)

  pub put_text : (vs : List ℕ) → is_ascii_uppercase (get_or form i 0) ≡ false
      → written p (filled_in (drop i form) vs) ≡ written (put_of p (get_or form i 0)) (filled_in (drop (i + 1) form) vs)
  unfolding filled_in written
  put_text [] e = rw (drop-cons form i 0 l, add-one i)
  put_text (v ∷ vs) e = rw (drop-cons form i 0 l, add-one i, e)

  pub put_rest : (vs : List ℕ) → length vs ≡ 0
      → written p (filled_in (drop i form) vs) ≡ written (put_of p (get_or form i 0)) (filled_in (drop (i + 1) form) vs)
  unfolding filled_in written
  put_rest [] e = rw (drop-cons form i 0 l, add-one i)
  put_rest (v ∷ vs) e = absurd (omega (arith, e))

-- nothing is left of the form
pub filled_over : (p : Page) (form vs : List ℕ) (i : ℕ) → length form ≤ i → written p (filled_in (drop i form) vs) ≡ p
unfolding filled_in written
filled_over p form vs i l = whole (drop i form) (omega (arith, l, length-drop i form))
  where
    whole : (cs : List ℕ) → length cs ≡ 0 → written p (filled_in cs vs) ≡ p
    whole [] e = refl
    whole (c ∷ cs) e = absurd (omega (arith, e))

-- ---- the form from place i on, with the values from the k-th on

pub value_there : (c k n : ℕ) → is_ascii_uppercase c && ltb k n ≡ true → k < n
value_there c k n e = ltb-true k n (and_right (is_ascii_uppercase c) (ltb k n) e)

rest : (a b : Bool) → a ≡ true → a && b ≡ false → b ≡ false
rest true b e f = f
rest false b e f = cc

module _ (p q : Page) (form values : List ℕ) (i k : ℕ) (l : i < length form) where
  pub next_mark : is_ascii_uppercase (get_or form i 0) && ltb k (length values) ≡ true
      → q ≡ written p (shown_as (get_or form i 0) (get_or values k 0))
      → written q (filled_in (drop (i + 1) form) (drop (k + 1) values)) ≡ written p (filled_in (drop i form) (drop k values))
  next_mark e w =
      let m = both (is_ascii_uppercase (get_or form i 0)) _ e in
      let left : drop k values ≡ get_or values k 0 ∷ drop (k + 1) values = rw (drop-cons values k 0 (ltb-true k (length values) m.1), add-one k) in
      ap (λ (x : Page). written x (filled_in (drop (i + 1) form) (drop (k + 1) values))) w
      ∙ sym (ap (λ (vs : List ℕ). written p (filled_in (drop i form) vs)) left ∙ put_mark p form i l (get_or values k 0) (drop (k + 1) values) m.0)

  pub next_text : is_ascii_uppercase (get_or form i 0) && ltb k (length values) ≡ false
      → q ≡ put_of p (get_or form i 0)
      → written q (filled_in (drop (i + 1) form) (drop k values)) ≡ written p (filled_in (drop i form) (drop k values))
  next_text e w =
      ap (λ (x : Page). written x (filled_in (drop (i + 1) form) (drop k values))) w
      ∙ sym (by_test (is_ascii_uppercase (get_or form i 0)) (λ m. put_rest p form i l (drop k values) (over m)) (λ m. put_text p form i l (drop k values) m))
    where
      over : is_ascii_uppercase (get_or form i 0) ≡ true → length (drop k values) ≡ 0
      over m = omega (arith, length-drop k values, ltb-false k (length values) (rest (is_ascii_uppercase (get_or form i 0)) _ m e))

-- ---- the line of a filter: a form, its handle, a form

pub filter_parts : (r : FilterRecord)
    → filled_in (ascii "filter id=N handle=") (r.id ∷ [])
    ++ (handle_as r.any_handle r.handle
    ++ filled_in (ascii " priority=A gate=N max-sdu=Z oversize-block=N meter=L scheduler=L\n") (r.priority ∷ r.gate ∷ r.max_sdu ∷ r.oversize_block ∷ r.meter ∷ r.scheduler ∷ []))
    ≡ line_of (Filter r)
unfolding line_of filled_in shown_as
filter_parts r = ap (λ (z : List ℕ). ascii "filter id=" ++ z) (append_assoc (digits_of r.id) (label_of "handle") _)
