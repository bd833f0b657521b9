-- Laws of what is put on a page, and of numbers in decimal.
use Rattle.std.specs.Prelude.{ℕ, zero, suc, ◌+◌, ◌/◌, ◌%◌, ◌<◌, ◌≤◌, ◌≡◌, Bool, true, false, ltb, length, get_or, set, take, drop}
use Rattle.std.proofs.Math.Path.{refl, sym, ap}
use Rattle.std.proofs.Common.{◌∙◌, arith, add-one, drop-cons, ltb-false, lt-ltb, le-ltb, eq-eqb, ne_eqb}
use Rattle.std.proofs.Math.Bool.{cond}
use Rattle.std.proofs.lemmas.List.{take_more}
use mathlib.Core.List.{List, [], ◌∷◌, ◌++◌, append_assoc}
use Rattle.text.specs.Meaning.{Page, page, put_of, written, digits_in, digits_of, pair_of, ascii, item_of, up_to}

-- ---- pages

pub written_append : (p : Page) (xs ys : List ℕ) → written p (xs ++ ys) ≡ written (written p xs) ys
unfolding written
written_append p [] ys = refl
written_append p (x ∷ xs) ys = written_append (put_of p x) xs ys

-- one thing put after another
pub written_then : (a b c : Page) (xs ys : List ℕ) → b ≡ written a xs → c ≡ written b ys → c ≡ written a (xs ++ ys)
written_then a b c xs ys e f = f ∙ ap (λ (p : Page). written p ys) e ∙ sym (written_append a xs ys)

pub written_one : (p q : Page) (v : ℕ) → q ≡ put_of p v → q ≡ written p (v ∷ [])
unfolding written
written_one p q v e = e

pub written_none : (p : Page) → written p [] ≡ p
unfolding written
written_none p = refl

-- one octet of a list more
pub written_more : (p : Page) (vs : List ℕ) (i : ℕ) → i < length vs → written p (take (i + 1) vs) ≡ put_of (written p (take i vs)) (get_or vs i 0)
unfolding written
written_more p vs i l = ap (written p) (take_more vs i 0 l) ∙ written_append p (take i vs) (get_or vs i 0 ∷ [])

-- the octets of a list from the first on
pub written_next : (p q : Page) (vs : List ℕ) (i : ℕ) → i < length vs → q ≡ put_of p (get_or vs i 0) → written q (drop (i + 1) vs) ≡ written p (drop i vs)
unfolding written
written_next p q vs i l e =
    ap (λ (a : Page). written a (drop (i + 1) vs)) e ∙ ap (λ (k : ℕ). written (put_of p (get_or vs i 0)) (drop k vs)) (add-one i) ∙ sym (ap (written p) (drop-cons vs i 0 l))

-- an octet that has a place, and one that has none
module _ (octets : List ℕ) (filled v : ℕ) where
  pub put_in : filled < length octets → page (set octets filled v) (filled + 1) ≡ put_of (page octets filled) v
  unfolding put_of
  put_in l = sym (ap (λ (z : Bool). cond z (page (set octets filled v) (filled + 1)) (page octets filled)) (lt-ltb filled (length octets) l))

  pub put_past : length octets ≤ filled → page octets filled ≡ put_of (page octets filled) v
  unfolding put_of
  put_past l = sym (ap (λ (z : Bool). cond z (page (set octets filled v) (filled + 1)) (page octets filled)) (le-ltb filled (length octets) l))

-- ---- numbers

longer : (z : Bool) (d xs ys : List ℕ) → (z ≡ false → xs ≡ ys) → cond z d (xs ++ d) ≡ cond z d (ys ++ d)
longer true d xs ys f = refl
longer false d xs ys f = ap (λ (zs : List ℕ). zs ++ d) (f refl)

tenth : (j n : ℕ) → n < suc j → 10 ≤ n → n / 10 < j
tenth j n h l = omega (arith, h, l)

-- how many digits are allowed for is not seen
digits_enough : (j k n : ℕ) → n < j → n < k → digits_in j n ≡ digits_in k n
unfolding digits_in
digits_enough zero k n h l = absurd (omega (arith, h))
digits_enough (suc j) zero n h l = absurd (omega (arith, l))
digits_enough (suc j) (suc k) n h l =
    longer (ltb n 10) ((n % 10 + 48) ∷ []) (digits_in j (n / 10)) (digits_in k (n / 10))
    (λ e. digits_enough j k (n / 10) (tenth j n h (ltb-false n 10 e)) (tenth k n l (ltb-false n 10 e)))

module _ (n : ℕ) where
  by_size : digits_of n ≡ cond (ltb n 10) ((n % 10 + 48) ∷ []) (digits_in n (n / 10) ++ ((n % 10 + 48) ∷ []))
  unfolding digits_in
  by_size = ap (λ (k : ℕ). digits_in k n) (add-one n)

  pub digits_one : n < 10 → digits_of n ≡ (n % 10 + 48) ∷ []
  digits_one l = by_size ∙ ap (λ (z : Bool). cond z ((n % 10 + 48) ∷ []) (digits_in n (n / 10) ++ ((n % 10 + 48) ∷ []))) (lt-ltb n 10 l)

  pub digits_more : 10 ≤ n → digits_of n ≡ digits_of (n / 10) ++ ((n % 10 + 48) ∷ [])
  digits_more l =
      by_size ∙ ap (λ (z : Bool). cond z ((n % 10 + 48) ∷ []) (digits_in n (n / 10) ++ ((n % 10 + 48) ∷ []))) (le-ltb n 10 l)
      ∙ ap (λ (zs : List ℕ). zs ++ ((n % 10 + 48) ∷ [])) (digits_enough n (n / 10 + 1) (n / 10) (omega (arith, l)) (omega arith))

-- two digits at a time
module _ (n : ℕ) where
  pub digits_two : 10 ≤ n → n < 100 → digits_of n ≡ pair_of n
  digits_two l h = digits_more n l ∙ ap (λ (zs : List ℕ). zs ++ ((n % 10 + 48) ∷ [])) (digits_one (n / 10) (omega (arith, h)))

  pub digits_pair : 100 ≤ n → digits_of n ≡ digits_of (n / 100) ++ pair_of n
  digits_pair l =
      digits_more n (omega (arith, l)) ∙ ap (λ (zs : List ℕ). zs ++ ((n % 10 + 48) ∷ [])) (digits_more (n / 10) (omega (arith, l)))
      ∙ append_assoc (digits_of (n / 10 / 10)) ((n / 10 % 10 + 48) ∷ []) ((n % 10 + 48) ∷ []) ∙ ap (λ (m : ℕ). digits_of m ++ pair_of n) (hundredth n)
    where
      hundredth : (n : ℕ) → n / 10 / 10 ≡ n / 100
      hundredth n = omega arith

-- ---- the report

module _ (table : List ℕ) (n : ℕ) (name : List ℕ) (value : ℕ) where
  pub item_empty : value ≡ 0 → item_of table n name value ≡ []
  unfolding item_of
  item_empty e = rw (eq-eqb value 0 e)

  pub item_line : (value ≡ 0 → ⊥) → item_of table n name value ≡ table ++ digits_of n ++ name ++ digits_of value ++ ascii "\n"
  unfolding item_of
  item_line h = rw (ne_eqb value 0 h)

module _ (p q : Page) (table : List ℕ) (n : ℕ) (name : List ℕ) (value : ℕ) where
  pub item_none : value ≡ 0 → p ≡ written p (item_of table n name value)
  unfolding written
  item_none e = sym (ap (written p) (item_empty table n name value e))

  pub item_some : (value ≡ 0 → ⊥) → q ≡ written p (table ++ digits_of n ++ name ++ digits_of value ++ ascii "\n") → q ≡ written p (item_of table n name value)
  item_some h e = e ∙ sym (ap (written p) (item_line table n name value h))

module _ (f : ℕ → List ℕ) (p : Page) where
  pub up_none : p ≡ written p (up_to f 0)
  unfolding up_to written
  up_none = refl

  pub up_more : (i : ℕ) → written p (up_to f (i + 1)) ≡ written (written p (up_to f i)) (f i)
  unfolding up_to
  up_more i = ap (λ (k : ℕ). written p (up_to f k)) (add-one i) ∙ written_append p (up_to f i) (f i)

  pub up_next : (q r : Page) (i : ℕ) → q ≡ written p (up_to f i) → r ≡ written q (f i) → r ≡ written p (up_to f (i + 1))
  up_next q r i e h = h ∙ ap (λ (x : Page). written x (f i)) e ∙ sym (up_more i)

  pub up_last : (q : Page) (i n : ℕ) → i ≤ n → n ≤ i → q ≡ written p (up_to f i) → q ≡ written p (up_to f n)
  up_last q i n l m e = e ∙ ap (λ (k : ℕ). written p (up_to f k)) (omega (arith, l, m))

-- one thing put after another, octets and texts
pub ruleset puts = (written_append, written_more, digits_one, digits_two, digits_pair, item_empty, item_line, up_more)
