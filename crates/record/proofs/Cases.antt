-- What reading gives of octets whose first says a kind, and the cases of reading and of the body by numbers alone.
use Rattle.std.specs.Prelude.{ℕ, zero, suc, ◌+◌, ◌-◌, ◌*◌, ◌≤◌, ◌<◌, Bool, true, false, not, List, [], ◌∷◌, ◌≡◌, refl, length, get_or, take, drop, Ok, Err}
use Rattle.std.proofs.Math.Option.{Option, none, some}
use Rattle.std.proofs.Common.{sym, ap, subst, ◌∙◌, arith, add-zero}
use borrow.Author.Tests.{le-leb, lt-leb}
use Rattle.std.proofs.Math.Decide.{ℕ_discrete}
use Rattle.std.proofs.Math.ListN.{get_or-eq_default}
use Rattle.record.specs.declared.Refusal.TheVariants.{CutShort, UnknownKind, OutOfTurn}
use Rattle.record.specs.Meaning.{Kind, kinds, kind_of, known_as, kind_named, number_at, record_length, length_in, in_turn_of, in_turn_in, Reading, whole_of, read_as, read_of, View, body_in, body_of}

-- a record of a kind has an octet at least
pub length_positive : (k : Kind) → 1 ≤ record_length k
length_positive k = omega arith

known_is : (o : Option Kind) (k : Kind) → known_as o ≡ Ok k → o ≡ some k
known_is none k e = cc
known_is (some j) k e = cc

read_by_kind : (s : List ℕ) (started : Bool) (k : Kind) → kind_of (get_or s 0 0) ≡ some k → read_of s started ≡ read_as (some k) started s
unfolding read_of
read_by_kind [] started k e = cc
read_by_kind (n ∷ s) started k e = rw e

module _ (s : List ℕ) (started : Bool) (k : Kind) (said : kind_named (get_or s 0 0) ≡ Ok k) where
  read_known : read_of s started ≡ read_as (some k) started s
  read_known = read_by_kind s started k (known_is (kind_of (get_or s 0 0)) k said)

  pub known_cut : length s < record_length k → read_of s started ≡ Err CutShort
  unfolding read_as
  known_cut h = read_known ∙ rw (lt-leb (record_length k) (length s) h)

  module _ (whole : record_length k ≤ length s) where
    pub read_out_of_turn : in_turn_of k started ≡ false → read_of s started ≡ Err OutOfTurn
    unfolding read_as
    read_out_of_turn t = read_known ∙ rw (le-leb (record_length k) (length s) whole, t)

    pub known_whole : in_turn_of k started ≡ true → read_of s started ≡ whole_of k s
    unfolding read_as
    known_whole t = read_known ∙ rw (le-leb (record_length k) (length s) whole, t)

-- ---- octets that are no kind

no_kind : (n : ℕ) → (0 < n → 10 < n) → kind_of n ≡ none
no_kind zero h = refl
no_kind (suc n) h = get_or-eq_default kinds none (h (omega arith))

-- n is none of 1 to k, as a match has it
abbrev pub NoneTo : ℕ → ℕ → Type 0
NoneTo zero n = Unit {0}
NoneTo (suc k) n = NoneTo k n × (n ≡ suc k → ⊥)

past : (k n : ℕ) → NoneTo k n → 0 < n → k < n
past zero n o h = h
past (suc k) n o h = omega (arith, past k n o.0 h, o.1)

pub kind_none : (n : ℕ) → NoneTo 10 n → kind_of n ≡ none
kind_none n o = no_kind n (past 10 n o)

-- ---- the turn of an octet

-- P of the k numbers from m on
abbrev Each : (ℕ → Type 0) → ℕ → ℕ → Type 0
Each P m zero = Unit {0}
Each P m (suc k) = P m × Each P (suc m) k

each_at : (P : ℕ → Type 0) (m k : ℕ) → Each P m k → (n : ℕ) → m ≤ n → n < m + k → P n
each_at P m zero all n l h = absurd (omega arith)
each_at P m (suc k) all n l h = by_first (ℕ_discrete n m) (λ q. each_at P (suc m) k all.1 n q (omega arith))
  where
    by_first : Dec (n ≡ m) → (suc m ≤ n → P n) → P n
    by_first (yes e) more = subst P (sym e) all.0
    by_first (no e) more = more (omega (arith, e))

module _ (n : ℕ) (started : Bool) where
  pub turn_before : 1 ≤ n → n ≤ 8 → in_turn_in (kind_of n) started ≡ not started
  turn_before l h = each_at (λ i. in_turn_in (kind_of i) started ≡ not started) 1 8 (refl, (refl, (refl, (refl, (refl, (refl, (refl, (refl, tt)))))))) n l (omega arith)

  pub turn_after : 9 ≤ n → n ≤ 10 → in_turn_in (kind_of n) started ≡ started
  turn_after l h = each_at (λ i. in_turn_in (kind_of i) started ≡ started) 9 2 (refl, (refl, tt)) n l (omega arith)

  pub turn_never : (0 < n → 10 < n) → in_turn_in (kind_of n) started ≡ false
  turn_never h = ap (λ (o : Option Kind). in_turn_in o started) (no_kind n h)

-- ---- numbers

-- eight octets, in two halves
pub number_halves : (s : List ℕ) (at high low : ℕ) → high ≡ number_at s at 4 → low ≡ number_at s (at + 4) 4 → high * 4_294_967_296 + low ≡ number_at s at 8
number_halves s at high low h l =
    let five : at + 5 ≡ at + 4 + 1 = omega arith in
    let six : at + 6 ≡ at + 4 + 2 = omega arith in
    let seven : at + 7 ≡ at + 4 + 3 = omega arith in
    rw (h, l, five, six, seven) (omega arith)

-- ---- by how many octets the first one asks for, 0 where it says no kind

-- what a record that is whole and in its turn gives, by what its octet says
abbrev pub whole_in : Option Kind → List ℕ → Reading
whole_in none s = Err UnknownKind
whole_in (some k) s = whole_of k s

module _ (started : Bool) (s : List ℕ) where
  unknown_as : (o : Option Kind) → length_in o ≡ 0 → read_as o started s ≡ Err UnknownKind
  unfolding read_as
  unknown_as none e = refl
  unknown_as (some k) e = absurd (omega (arith, length_positive k))

  cut_as : (o : Option Kind) → (length_in o ≡ 0 → ⊥) → length s < length_in o → read_as o started s ≡ Err CutShort
  unfolding read_as
  cut_as none n h = absurd (n refl)
  cut_as (some k) n h = rw (lt-leb (record_length k) (length s) h)

  turn_as : (o : Option Kind) → (length_in o ≡ 0 → ⊥) → length_in o ≤ length s → in_turn_in o started ≡ false → read_as o started s ≡ Err OutOfTurn
  unfolding read_as
  turn_as none n h e = absurd (n refl)
  turn_as (some k) n h e = rw (le-leb (record_length k) (length s) h, e)

  whole_as : (o : Option Kind) → (length_in o ≡ 0 → ⊥) → length_in o ≤ length s → in_turn_in o started ≡ true → read_as o started s ≡ whole_in o s
  unfolding read_as
  whole_as none n h e = absurd (n refl)
  whole_as (some k) n h e = rw (le-leb (record_length k) (length s) h, e)

-- an octet that is the number k says what k says
pub enough : (n k m : ℕ) → n ≡ k → length_in (kind_of n) ≤ m → length_in (kind_of k) ≤ m
enough n k m e h = rw e at h

pub whole_is : (n k : ℕ) (s : List ℕ) (r : Reading) → n ≡ k → r ≡ whole_in (kind_of k) s → r ≡ whole_in (kind_of n) s
whole_is n k s r e h = rw e h

pub read_empty : (s : List ℕ) (started : Bool) → length s ≡ 0 → read_of s started ≡ Err CutShort
unfolding read_of
read_empty [] started e = refl
read_empty (n ∷ s) started e = absurd (omega arith)

-- an octet at least: reading goes by what the first one says
pub read_first : (s : List ℕ) (started : Bool) → (length s ≡ 0 → ⊥) → read_of s started ≡ read_as (kind_of (get_or s 0 0)) started s
unfolding read_of
read_first [] started h = absurd (h refl)
read_first (n ∷ s) started h = refl

module _ (s : List ℕ) (started : Bool) (some-octet : length s ≡ 0 → ⊥) where
  pub read_unknown : (u : ℕ) → u ≡ length_in (kind_of (get_or s 0 0)) → u ≡ 0 → read_of s started ≡ Err UnknownKind
  read_unknown u e z = read_first s started some-octet ∙ unknown_as _ s (kind_of (get_or s 0 0)) (sym e ∙ z)

  module _ (u : ℕ) (e : u ≡ length_in (kind_of (get_or s 0 0))) (known : u ≡ 0 → ⊥) where
    pub read_cut : length s < u → read_of s started ≡ Err CutShort
    read_cut h = read_first s started some-octet ∙ cut_as _ s (kind_of (get_or s 0 0)) (λ z. known (e ∙ z)) (rw e at h)

    module _ (whole : u ≤ length s) where
      pub read_turn : in_turn_in (kind_of (get_or s 0 0)) started ≡ false → read_of s started ≡ Err OutOfTurn
      read_turn t = read_first s started some-octet ∙ turn_as _ s (kind_of (get_or s 0 0)) (λ z. known (e ∙ z)) (rw e at whole) t

      pub read_whole : in_turn_in (kind_of (get_or s 0 0)) started ≡ true → read_of s started ≡ whole_in (kind_of (get_or s 0 0)) s
      read_whole t = read_first s started some-octet ∙ whole_as _ s (kind_of (get_or s 0 0)) (λ z. known (e ∙ z)) (rw e at whole) t

-- ---- the body

view_is : (a b : View) → a.block ≡ b.block → a.place ≡ b.place → a.octets ≡ b.octets → a ≡ b
view_is a b p q r = λ i. record { block = p i; place = q i; octets = r i }

module _ (v : View) (used : ℕ) where
  module _ (r : View) (p : r.block ≡ v.block) where
    pub body_none : used ≡ 0 → r.place ≡ v.place → r.octets ≡ [] → r ≡ body_of v used
    unfolding body_of body_in
    body_none e q o = rw e (view_is r (record { block = v.block; place = v.place + 0; octets = [] }) p (q ∙ sym (add-zero v.place)) o)

    pub body_past : length v.octets < used → r.place ≡ v.place → r.octets ≡ [] → r ≡ body_of v used
    unfolding body_of body_in
    body_past h q o = rw (le-leb 1 used (omega arith), lt-leb used (length v.octets) h) (view_is r (record { block = v.block; place = v.place + 0; octets = [] }) p (q ∙ sym (add-zero v.place)) o)

    pub body_part : (used ≡ 0 → ⊥) → used ≤ length v.octets → r.place ≡ v.place + 1 → r.octets ≡ take (used - 1) (drop 1 v.octets) → r ≡ body_of v used
    unfolding body_of body_in
    body_part n h q o = rw (le-leb 1 used (omega arith), le-leb used (length v.octets) h) (view_is r (record { block = v.block; place = v.place + 1; octets = take (used - 1) (drop 1 v.octets) }) p q o)
