-- What follows from the definition of reading: it depends on nothing past the record's end; what is read encodes to the same octets; no record
-- of one kind is read as another.
use Rattle.std.specs.Prelude.{ℕ, zero, suc, ◌+◌, ◌*◌, ◌/◌, ◌%◌, ◌≤◌, ◌<◌, Bool, true, false, cond, ◌&&◌, List, [], ◌∷◌, ◌++◌, ◌≡◌, refl, leb, eqb, length, get_or, take, drop, Ok, Err}
use Rattle.std.proofs.Math.Option.{Option, none, some}
use Rattle.std.proofs.Common.{sym, ap, ◌∙◌, arith, length-append, length-drop, take-suc, drop-cons, take-add, drop-drop, get_or-drop}
use borrow.Author.Tests.{le-leb, leb-true, eqb-true, not-true}
use Rattle.std.proofs.Math.ListN.{get_or-append}
use Rattle.logic.specs.Laws.{both}
use Rattle.record.specs.declared.Record.{Record}
use Rattle.record.specs.declared.Refusal.{Refusal}
use Rattle.record.specs.declared.Refusal.TheVariants.{CutShort, OutOfRange, OutOfTurn}
use Rattle.record.specs.Meaning.{Kind, port, filter, gate, gate_entry, meter, group, scheduler, start, arrival, clear, kinds, kind_of, known_as, Turn, before, after, Field, octet_of, turn_of, fields_of, widths_of, fields_in_range, number_at, values_at, big_endian_of, encoded_of, record_of, record_length, comes, in_turn_of, Reading, read_as, read_of}
use Rattle.record.proofs.Sorts.{turn_in, Setup}
use Rattle.record.proofs.Cases.{length_positive, read_out_of_turn}

-- ---- octets that agree say the same numbers

-- the octets from `at` up to `end` are the same in both
abbrev pub Agree : List ℕ → List ℕ → ℕ → ℕ → Type 0
Agree s t at end = (i : ℕ) → at ≤ i → i < end → get_or s i 0 ≡ get_or t i 0

module _ (s t : List ℕ) where
  number_agrees : (at w : ℕ) → Agree s t at (at + w) → number_at s at w ≡ number_at t at w
  number_agrees at zero h = refl
  number_agrees at (suc zero) h = h at (omega arith) (omega arith)
  number_agrees at (suc (suc w)) h =
      rw (number_agrees at (suc w) (λ i l m. h i l (omega (arith, m))), h (at + suc w) (omega arith) (omega arith))

  values_agree : (fs : List Field) (at : ℕ) → Agree s t at (at + widths_of fs) → values_at s at fs ≡ values_at t at fs
  values_agree [] at h = refl
  values_agree (f ∷ fs) at h =
      rw (number_agrees at f.width (λ i l m. h i l (omega (arith, m))), values_agree fs (at + f.width) (λ i l m. h i (omega (arith, l)) (omega (arith, m))))

-- ---- what a taken record is

not_taken : {f : Refusal} {r : Record} {u : ℕ} → ◌≡◌ {A = Reading} (Err f) (Ok (r, u)) → ⊥
not_taken e = let z : ◌≡◌ {A = ℕ} 0 1 = cc in omega arith

none_some : (k : Kind) → none ≡ some k → ⊥
none_some k e = let z : ◌≡◌ {A = ℕ} 0 1 = cc in omega arith

cond_taken : (b : Bool) (x : Reading) (f : Refusal) (r : Record) (u : ℕ) → cond b x (Err f) ≡ Ok (r, u) → (b ≡ true) × (x ≡ Ok (r, u))
cond_taken true x f r u e = (refl, e)
cond_taken false x f r u e = absurd (not_taken e)

pub taken_parts : (q r : Record) (u v : ℕ) → ◌≡◌ {A = Reading} (Ok (q, u)) (Ok (r, v)) → (q ≡ r) × (u ≡ v)
taken_parts q r u v e =
    let p : ◌≡◌ {A = Record × ℕ} (q, u) (r, v) = cc in
    (ap (λ (t : Record × ℕ). t.0) p, ap (λ (t : Record × ℕ). t.1) p)

-- the octets s say this record: their first says its kind, the kind's octets are there and in their turn, and the fields are in range
pub record Says (s : List ℕ) (started : Bool) (r : Record) (used : ℕ) : Type 0 where
  pub kind : Kind
  pub said : kind_of (get_or s 0 0) ≡ some kind
  pub whole : record_length kind ≤ length s
  pub in_turn : in_turn_of kind started ≡ true
  pub in_range : fields_in_range kind (values_at s 1 (fields_of kind)) ≡ true
  pub is : record_of kind (values_at s 1 (fields_of kind)) ≡ r
  pub uses : record_length kind ≡ used

module _ (s : List ℕ) (started : Bool) (r : Record) (used : ℕ) where
  says_as : (o : Option Kind) → kind_of (get_or s 0 0) ≡ o → read_as o started s ≡ Ok (r, used) → Says s started r used
  unfolding read_as
  says_as none q e = absurd (not_taken e)
  says_as (some k) q e =
      let a = cond_taken (leb (record_length k) (length s)) _ CutShort r used e in
      let b = cond_taken (in_turn_of k started) _ OutOfTurn r used a.1 in
      let c = cond_taken (fields_in_range k (values_at s 1 (fields_of k))) _ OutOfRange r used b.1 in
      let d = taken_parts _ r _ used c.1 in
      record { kind = k; said = q; whole = leb-true _ _ a.0; in_turn = b.0; in_range = c.0; is = d.0; uses = d.1 }

pub read_says : (s : List ℕ) (started : Bool) (r : Record) (used : ℕ) → read_of s started ≡ Ok (r, used) → Says s started r used
unfolding read_of
read_says [] started r used e = absurd (not_taken e)
read_says (n ∷ s) started r used e = says_as (n ∷ s) started r used (kind_of n) refl e

pub says_read : (s : List ℕ) (started : Bool) (r : Record) (used : ℕ) → Says s started r used → read_of s started ≡ Ok (r, used)
unfolding read_of read_as
says_read [] started r used y = absurd (none_some y.kind y.said)
says_read (n ∷ s) started r used y =
    rw (y.said, le-leb (record_length y.kind) (length (n ∷ s)) y.whole, y.in_turn, y.in_range, y.is, y.uses)

-- a record uses an octet at least, and no more than are there
pub read_uses : (s : List ℕ) (started : Bool) (r : Record) (used : ℕ) → read_of s started ≡ Ok (r, used) → (1 ≤ used) × (used ≤ length s)
read_uses s started r used e =
    let y = read_says s started r used e in
    (omega (arith, length_positive y.kind, y.uses), omega (arith, y.whole, y.uses))

-- ---- nothing past the record's end is looked at

-- any other octets that agree with these up to the record's end are read as the same record
pub read_front : (s t : List ℕ) (started : Bool) (r : Record) (used : ℕ) → read_of s started ≡ Ok (r, used) → Agree s t 0 used → used ≤ length t → read_of t started ≡ Ok (r, used)
read_front s t started r used e h l =
    let y = read_says s started r used e in
    let first : get_or s 0 0 ≡ get_or t 0 0 = h 0 (omega arith) (omega (arith, length_positive y.kind, y.uses)) in
    let same : values_at s 1 (fields_of y.kind) ≡ values_at t 1 (fields_of y.kind)
    = values_agree s t (fields_of y.kind) 1 (λ i m n. h i (omega arith) (omega (arith, n, y.uses))) in
    says_read t started r used
    (record {
      kind = y.kind;
      said = ap kind_of (sym first) ∙ y.said;
      whole = omega (arith, y.uses);
      in_turn = y.in_turn;
      in_range = ap (fields_in_range y.kind) (sym same) ∙ y.in_range;
      is = ap (record_of y.kind) (sym same) ∙ y.is;
      uses = y.uses;
    })

by_test : {A : Type 0} (b : Bool) → (b ≡ true → A) → (b ≡ false → A) → A
by_test true f g = f refl
by_test false f g = g refl

as_extends : (o : Option Kind) (started : Bool) (s t : List ℕ) → (read_as o started s ≡ Err CutShort → ⊥) → read_as o started (s ++ t) ≡ read_as o started s
unfolding read_as
as_extends none started s t n = refl
as_extends (some k) started s t n =
    by_test (leb (record_length k) (length s))
    (λ e.
    let h : record_length k ≤ length s = leb-true _ _ e in
    let same : values_at (s ++ t) 1 (fields_of k) ≡ values_at s 1 (fields_of k)
    = values_agree (s ++ t) s (fields_of k) 1 (λ i l m. get_or-append s t 0 i (omega (arith, m))) in
    rw (le-leb (record_length k) (length (s ++ t)) (omega (arith, length-append s t)), e, same))
    (λ e. absurd (n (rw e)))

-- what is not cut short is read the same whatever follows: a cut record alone has to wait for more
pub read_extends : (s t : List ℕ) (started : Bool) → (read_of s started ≡ Err CutShort → ⊥) → read_of (s ++ t) started ≡ read_of s started
unfolding read_of
read_extends [] t started n = absurd (n refl)
read_extends (x ∷ s) t started n = as_extends (kind_of x) started (x ∷ s) t n

-- ---- no record of one kind is read as another, and none out of its turn

-- each kind of the list stands where its octet says, the first at m
abbrev numbered : ℕ → List (Option Kind) → Bool
numbered m [] = true
numbered m (none ∷ ks) = numbered (suc m) ks
numbered m (some k ∷ ks) = eqb (octet_of k) m && numbered (suc m) ks

numbered_at : (m : ℕ) (ks : List (Option Kind)) → numbered m ks ≡ true → (i : ℕ) (k : Kind) → get_or ks i none ≡ some k → octet_of k ≡ m + i
numbered_at m [] h i k e = absurd (none_some k e)
numbered_at m (none ∷ ks) h zero k e = absurd (none_some k e)
numbered_at m (none ∷ ks) h (suc i) k e = omega (arith, numbered_at (suc m) ks h i k e)
numbered_at m (some j ∷ ks) h zero k e =
    let same : k ≡ j = cc in
    omega (arith, ap octet_of same, eqb-true (octet_of j) m (both (eqb (octet_of j) m) (numbered (suc m) ks) h).0)
numbered_at m (some j ∷ ks) h (suc i) k e =
    omega (arith, numbered_at (suc m) ks (both (eqb (octet_of j) m) (numbered (suc m) ks) h).1 i k e)

pub kind_octet : (n : ℕ) (k : Kind) → kind_of n ≡ some k → octet_of k ≡ n
kind_octet n k e = omega (arith, numbered_at 0 kinds refl n k e)

-- the first octet is the number of the kind that is read
pub read_kind : (s : List ℕ) (started : Bool) (r : Record) (used : ℕ) (e : read_of s started ≡ Ok (r, used)) → octet_of (read_says s started r used e).kind ≡ get_or s 0 0
read_kind s started r used e = let y = read_says s started r used e in kind_octet (get_or s 0 0) y.kind y.said

-- a kind's records come when the kind does
kind_turn : (k : Kind) (vs : List ℕ) → turn_in (record_of k vs) ≡ turn_of k
kind_turn port vs = refl
kind_turn filter vs = refl
kind_turn gate vs = refl
kind_turn gate_entry vs = refl
kind_turn meter vs = refl
kind_turn group vs = refl
kind_turn scheduler vs = refl
kind_turn start vs = refl
kind_turn arrival vs = refl
kind_turn clear vs = refl

pub read_in_turn : (s : List ℕ) (started : Bool) (r : Record) (used : ℕ) → read_of s started ≡ Ok (r, used) → comes (turn_in r) started ≡ true
read_in_turn s started r used e =
    let y = read_says s started r used e in
    ap (λ (t : Turn). comes t started) (ap turn_in (sym y.is) ∙ kind_turn y.kind _) ∙ y.in_turn

pub read_setup : (s : List ℕ) (started : Bool) (r : Record) (used : ℕ) → read_of s started ≡ Ok (r, used) → Setup r → started ≡ false
read_setup s started r used e h = not-true started (ap (λ (t : Turn). comes t started) (sym h) ∙ read_in_turn s started r used e)

turned : (t : Turn) → comes t false ≡ true → comes t true ≡ false
turned before e = refl
turned after e = sym e

-- what is read before a start is out of turn after it
pub read_late : (s : List ℕ) (r : Record) (used : ℕ) → read_of s false ≡ Ok (r, used) → read_of s true ≡ Err OutOfTurn
read_late s r used e =
    let y = read_says s false r used e in
    read_out_of_turn s true y.kind (ap known_as y.said) y.whole (turned (turn_of y.kind) y.in_turn)

-- ---- what is read encodes to the same octets

abbrev pub Octets : List ℕ → Type 0
Octets s = (i : ℕ) → get_or s i 0 < 256

module _ (s : List ℕ) (octets : Octets s) where
  number_encodes : (at w : ℕ) → at + w ≤ length s → big_endian_of w (number_at s at w) ≡ take w (drop at s)
  number_encodes at zero h = refl
  number_encodes at (suc zero) h =
      let m : get_or s at 0 % 256 ≡ get_or s at 0 = omega (arith, octets at) in
      rw (m, drop-cons s at 0 (omega arith))
  number_encodes at (suc (suc w)) h =
      let n = number_at s at (suc w) in
      let d = get_or s (at + suc w) 0 in
      let q : (n * 256 + d) / 256 ≡ n = omega (arith, octets (at + suc w)) in
      let m : (n * 256 + d) % 256 ≡ d = omega (arith, octets (at + suc w)) in
      let l : suc w < length (drop at s) = simp length-drop (omega arith) in
      rw (q, m, number_encodes at (suc w) (omega arith), take-suc (drop at s) (suc w) 0 l, get_or-drop at s (suc w) 0)

  values_encode : (fs : List Field) (at : ℕ) → at + widths_of fs ≤ length s → encoded_of fs (values_at s at fs) ≡ take (widths_of fs) (drop at s)
  values_encode [] at h = refl
  values_encode (f ∷ fs) at h =
      rw (number_encodes at f.width (omega arith), values_encode fs (at + f.width) (omega arith), take-add f.width (widths_of fs) (drop at s), drop-drop f.width at s)

front : (s : List ℕ) (n : ℕ) → 1 ≤ length s → get_or s 0 0 ∷ take n (drop 1 s) ≡ take (1 + n) s
front [] n h = absurd (omega arith)
front (x ∷ s) n h = rw (take-add 1 n (x ∷ s))

-- the octet of the kind, then its fields' values as they were read
pub read_encodes : (s : List ℕ) (started : Bool) (r : Record) (used : ℕ) → Octets s → (e : read_of s started ≡ Ok (r, used))
    → let k = (read_says s started r used e).kind in
    let vs = values_at s 1 (fields_of k) in
    (octet_of k ∷ encoded_of (fields_of k) vs ≡ take used s) × (record_of k vs ≡ r)
read_encodes s started r used o e =
    let y = read_says s started r used e in
    let fs = fields_of y.kind in (
      ap (λ (b : List ℕ). octet_of y.kind ∷ b) (values_encode s o fs 1 y.whole)
          ∙ ap (λ (n : ℕ). n ∷ take (widths_of fs) (drop 1 s)) (read_kind s started r used e)
          ∙ front s (widths_of fs) (omega (arith, y.whole))
          ∙ ap (λ (n : ℕ). take n s) y.uses,
      y.is,
    )
