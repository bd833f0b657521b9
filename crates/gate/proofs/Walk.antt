-- The walk over a list: its entries by their own octets, the sum of the intervals, and one turn of the search for the entry in force.
use Rattle.std.proofs.Common.{ℕ, zero, suc, ◌+◌, ◌-◌, ◌*◌, ◌/◌, ◌%◌, ◌≤◌, ◌<◌, Some, None, List, [], ◌∷◌, ◌≡◌, refl, length, map, get_or, take, drop, min, add-one, arith}
use Rattle.std.proofs.Math.Nat.{sub-zero}
use Rattle.std.specs.List.{sum_by}
use Rattle.std.specs.Simd.{first_chunks}
use Rattle.std.proofs.lemmas.List.{drop-drop, get_or-take, get_or-drop, drop_more, drop_all}
use Rattle.std.proofs.lemmas.Grind.{common_steps}
use borrow.Author.Tests.{lt-ltb, le-ltb}
use Rattle.sizes.specs.Meaning.{entry_octets, entry_count}
use Rattle.gate.specs.declared.Entry.{Entry}
use Rattle.gate.specs.Entries.{entry_in}
use Rattle.gate.specs.Meaning.{word_of, entry_at, entries_from, entries_in, entries_of, cycle_of, found_of, in_force_of}

-- what a part of the octets says is what the whole says at its place
module _ (s : List ℕ) (n at : ℕ) where
  octet_apart : (k j : ℕ) → k < n → at + k ≡ j → get_or (take n (drop at s)) k 0 ≡ get_or s j 0
  octet_apart k j h e = rw (get_or-take n (drop at s) k 0 h, get_or-drop at s k 0, e)

  word_apart : (k j : ℕ) → k + 3 < n → at + k ≡ j → word_of (take n (drop at s)) k ≡ word_of s j
  word_apart k j h e = cc (octet_apart k j (omega arith) e, octet_apart (k + 1) (j + 1) (omega arith) (omega arith), octet_apart (k + 2) (j + 2) (omega arith) (omega arith), octet_apart (k + 3) (j + 3) (omega arith) (omega arith))

entry_apart : (s : List ℕ) (i : ℕ) → entry_in (take entry_octets (drop (i * entry_octets) s)) ≡ entry_at s i
entry_apart s i =
    let at = i * entry_octets in
    cc (octet_apart s entry_octets at 1 (at + 1) (omega arith) refl, octet_apart s entry_octets at 2 (at + 2) (omega arith) refl, word_apart s entry_octets at 3 (at + 3) (omega arith) refl, word_apart s entry_octets at 7 (at + 7) (omega arith) refl)

entries_apart_from : (s : List ℕ) (i k n : ℕ) → n ≤ k → map entry_in (take n (first_chunks entry_octets k (drop (i * entry_octets) s))) ≡ entries_from s i n
unfolding entries_from
entries_apart_from s i k zero h = refl
entries_apart_from s i zero (suc n) h = absurd (omega arith)
entries_apart_from s i (suc k) (suc n) h =
    let next : i * entry_octets + entry_octets ≡ suc i * entry_octets = omega arith in
    rw (entry_apart s i, drop-drop entry_octets (i * entry_octets) s, next, entries_apart_from s (suc i) k n (omega arith))

pub entries_apart : (s : List ℕ) (n : ℕ) → n ≡ min (length s / entry_octets) entry_count → map entry_in (take n (first_chunks entry_octets (length s / entry_octets) s)) ≡ entries_of s
entries_apart s n e = rw e (entries_apart_from s 0 (length s / entry_octets) (entries_in s) (omega arith))

pub cycle_sum : (octets : List (List ℕ)) → cycle_of (map entry_in octets) ≡ sum_by (λ (o : List ℕ). (entry_in o).interval) octets
unfolding cycle_of
cycle_sum [] = refl
cycle_sum (o ∷ more) = grind (arith, common_steps, cycle_sum more)

-- the entries of the whole octets from the i-th on
abbrev pub rest_of : List ℕ → ℕ → List Entry
rest_of s i = entries_from s i (entries_in s - i)

-- from the first on these are all
pub rest_all : (s : List ℕ) → rest_of s 0 ≡ entries_of s
rest_all s = rw sub-zero

-- what is summed of the intervals before the i-th entry, and the cycle of the rest
module _ (s : List ℕ) (i : ℕ) where
  rest_more : i < entries_in s → rest_of s i ≡ entry_at s i ∷ rest_of s (i + 1)
  unfolding entries_from
  rest_more h = let e : entries_in s - i ≡ suc (entries_in s - (i + 1)) = omega arith in rw (e, add-one i)

  rest_done : entries_in s ≤ i → rest_of s i ≡ []
  unfolding entries_from
  rest_done h = let e : entries_in s - i ≡ 0 = omega arith in rw e

  pub cycle_more : (sum d all : ℕ) → i < entries_in s → d ≡ (entry_at s i).interval → sum + cycle_of (rest_of s i) ≡ all → sum + d + cycle_of (rest_of s (i + 1)) ≡ all
  unfolding cycle_of
  cycle_more sum d all h e w = let w' = rw (rest_more h) at w in omega arith

  pub cycle_done : (sum all : ℕ) → entries_in s ≤ i → sum + cycle_of (rest_of s i) ≡ all → sum ≡ all
  unfolding cycle_of
  cycle_done sum all h w = let w' = rw (rest_done h) at w in omega arith

  -- what is looked for among the entries from the i-th on
  module _ (t x d : ℕ) where
    pub found_here : i < entries_in s → d ≡ (entry_at s i).interval → x < d → found_of t (rest_of s i) i x ≡ Some (record { index = i; start = t - x; entry = entry_at s i })
    unfolding found_of
    found_here h e l = rw (rest_more h, ← e, lt-ltb x d l)

    pub found_later : i < entries_in s → d ≡ (entry_at s i).interval → d ≤ x → found_of t (rest_of s i) i x ≡ found_of t (rest_of s (i + 1)) (i + 1) (x - d)
    unfolding found_of
    found_later h e l = rw (rest_more h, ← e, le-ltb x d l, add-one i)

  pub found_none : (t x : ℕ) → entries_in s ≤ i → found_of t (rest_of s i) i x ≡ None
  unfolding found_of
  found_none t x h = rw (rest_done h)

-- the same with each entry as its own octets
module _ (octets : List (List ℕ)) (i t x : ℕ) where
  pub seen_here : (d : List ℕ) → i < length octets → x < (entry_in (get_or octets i d)).interval
      → found_of t (map entry_in (drop i octets)) i x ≡ Some (record { index = i; start = t - x; entry = entry_in (get_or octets i d) })
  unfolding found_of
  seen_here d h l = rw (drop_more octets i d h, lt-ltb x _ l)

  pub seen_later : (d : List ℕ) → i < length octets → (entry_in (get_or octets i d)).interval ≤ x
      → found_of t (map entry_in (drop i octets)) i x ≡ found_of t (map entry_in (drop (i + 1) octets)) (i + 1) (x - (entry_in (get_or octets i d)).interval)
  unfolding found_of
  seen_later d h l = rw (drop_more octets i d h, le-ltb x _ l, add-one i)

  pub seen_none : length octets ≤ i → found_of t (map entry_in (drop i octets)) i x ≡ None
  unfolding found_of
  seen_none h = rw (drop_all i octets h)

-- before the base time, and from then on
module _ (es : List Entry) (base t : ℕ) where
  pub in_force_early : t < base → in_force_of es base t ≡ None
  unfolding in_force_of
  in_force_early h = rw (lt-ltb t base h)

  pub in_force_later : base ≤ t → in_force_of es base t ≡ found_of t es 0 ((t - base) % cycle_of es)
  unfolding in_force_of
  in_force_later h = rw (le-ltb t base h)
