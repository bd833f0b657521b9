-- The cases of the definitions in Setup, and what the loops of the code come to.
use Rattle.std.specs.Prelude.{ℕ, zero, suc, ◌+◌, ◌-◌, ◌≤◌, ◌<◌, Bool, true, false, ◌||◌, List, [], ◌∷◌, ◌≡◌, eqb, slice_set}
use Rattle.std.proofs.Math.Bool.{or-false, or_assoc}
use Rattle.std.specs.List.{list_any, range_with_len}
use Rattle.std.proofs.Common.{sym, add-zero, zero-add, arith, ⊎_elim, ap, ◌∙◌, not-suc-le-zero, eq-or-lt_of_le, le_of_suc-le-suc, add-one}
use borrow.Author.Tests.{lt-ltb, le-ltb, ne_eqb, eqb-true}
use Rattle.sizes.specs.Meaning.{entry_count, entry_octets}
use Rattle.logic.specs.Laws.{neither_left, neither_right, if_by}
use Rattle.record.specs.declared.GateEntryRecord.{GateEntryRecord}
use Rattle.record.specs.declared.ClearRecord.{ClearRecord}
use Rattle.record.specs.declared.Refusal.{Refusal}
use Rattle.record.specs.declared.Refusal.TheVariants.{NinthEntry, NotSetUp}
use Rattle.bank.specs.Meaning.{Rows, store, entries, with_entries}
use Rattle.filter.specs.declared.Filter.{Filter}
use Rattle.verdict.specs.Meaning.{Refused, Taken, Told, told}
use Rattle.setup.specs.Meaning.{refused_if, octet_at, some_of, listed, entry_kept, entry_place, add_entry_of, clear_oversize_of, clear_invalid_receive_of, clear_octets_of, clear_red_of, clear_of}

module _ (b : Bool) (why : Refusal) (s : Rows) (t : Told) where
  pub if_refused : b ≡ true → refused_if b why s t ≡ told s (Refused why)
  unfolding refused_if
  if_refused e = rw e

  pub if_goes_on : b ≡ false → refused_if b why s t ≡ t
  unfolding refused_if
  if_goes_on e = rw e

-- what holds of the refusal, and of what follows, holds of both
pub refused_by : (P : Told → Type 0) (b : Bool) (why : Refusal) (s : Rows) (t : Told) → P (told s (Refused why)) → P t → P (refused_if b why s t)
unfolding refused_if
refused_by P true why s t h k = h
refused_by P false why s t h k = k

module _ (test : ℕ → Bool) (found : Bool) (n : ℕ) (e : found ≡ some_of test n) where
  pub some_more : (t : Bool) → t ≡ test n → (found || t) ≡ some_of test (n + 1)
  unfolding some_of
  some_more t e' = rw (add-one, e, e')

-- what `any` finds among the numbers below n, one after the other, is what `some_of` finds
some_of_more : (test : ℕ → Bool) (a n : ℕ) → (some_of test a || list_any test (range_with_len a n)) ≡ some_of test (a + n)
unfolding some_of
some_of_more test a zero = or-false (some_of test a) ∙ ap (some_of test) (sym (add-zero a))
some_of_more test a (suc n) =
    sym (or_assoc (some_of test a) (test a) (list_any test (range_with_len (a + 1) n)))
    ∙ ap (λ (k : ℕ). some_of test (suc a) || list_any test (range_with_len k n)) (add-one a)
    ∙ some_of_more test (suc a) n
    ∙ ap (some_of test) (let same : suc a + n ≡ a + suc n = omega arith in same)

pub some_of_any : (test : ℕ → Bool) (n : ℕ) → list_any test (range_with_len 0 n) ≡ some_of test n
unfolding some_of
some_of_any test n = some_of_more test 0 n ∙ ap (some_of test) (zero-add n)

-- where none passes the test, each fails it
pub none_of : (test : ℕ → Bool) (n : ℕ) → some_of test n ≡ false → (i : ℕ) → i < n → test i ≡ false
unfolding some_of
none_of test zero e i h = absurd (not-suc-le-zero h)
none_of test (suc n) e i h =
    ⊎_elim (λ same. ap test same ∙ neither_right (some_of test n) (test n) e) (λ less. none_of test n (neither_left (some_of test n) (test n) e) i less)
    (eq-or-lt_of_le (le_of_suc-le-suc h))

module _ (s : Rows) (lists body : List ℕ) (r : GateEntryRecord) (n : ℕ) (e : n ≡ entries s r.gate) where
  pub entry_taken : n < entry_count → add_entry_of s lists body r ≡ listed (with_entries s r.gate (n + 1)) (entry_kept lists (entry_place r.gate n) body) Taken
  unfolding add_entry_of
  entry_taken h = rw (← e, lt-ltb _ _ h)

  pub entry_ninth : entry_count ≤ n → add_entry_of s lists body r ≡ listed s lists (Refused NinthEntry)
  unfolding add_entry_of
  entry_ninth h = rw (← e, le-ltb _ _ h)

-- n octets of a body from octet k on
abbrev pub octets_from : List ℕ → ℕ → ℕ → List ℕ
octets_from body k zero = []
octets_from body k (suc n) = octet_at body k ∷ octets_from body (suc k) n

-- octet k stored, what is still to come is one less
pub kept_more : (ws body kept : List ℕ) (at k v : ℕ) → k < entry_octets → v ≡ octet_at body k → store ws at k (octets_from body k (entry_octets - k)) ≡ kept
    → store (slice_set ws (at + k) v) at (k + 1) (octets_from body (k + 1) (entry_octets - (k + 1))) ≡ kept
kept_more ws body kept at k v below e h =
    let more : entry_octets - k ≡ suc (entry_octets - suc k) = omega arith in
    rw (e, add-one) (rw more at h)

-- the flag is none of 1 to 4
abbrev pub Others : ℕ → Type 0
Others n = ((((Unit {0} × (n ≡ 1 → ⊥)) × (n ≡ 2 → ⊥)) × (n ≡ 3 → ⊥)) × (n ≡ 4 → ⊥))

module _ (s : Rows) (r : ClearRecord) (row : Filter) where
  pub clear_oversize : r.flag ≡ 1 → clear_of s r row ≡ clear_oversize_of s r.id row
  unfolding clear_of
  clear_oversize e = rw e

  pub clear_invalid_receive : r.flag ≡ 2 → clear_of s r row ≡ clear_invalid_receive_of s r.id
  unfolding clear_of
  clear_invalid_receive e = rw e

  pub clear_octets : r.flag ≡ 3 → clear_of s r row ≡ clear_octets_of s r.id
  unfolding clear_of
  clear_octets e = rw e

  pub clear_red : r.flag ≡ 4 → clear_of s r row ≡ clear_red_of s r.id
  unfolding clear_of
  clear_red e = rw e

  pub clear_none : Others r.flag → clear_of s r row ≡ told s (Refused NotSetUp)
  unfolding clear_of
  clear_none o = rw (ne_eqb r.flag 1 o.0.0.0.1, ne_eqb r.flag 2 o.0.0.1, ne_eqb r.flag 3 o.0.1, ne_eqb r.flag 4 o.1)

-- what holds of each flag's clear, and where there is no such flag, holds of the clear
pub clear_by_lem : (P : Told → Type 0) (s : Rows) (r : ClearRecord) (row : Filter) → (r.flag ≡ 1 → P (clear_oversize_of s r.id row)) → (r.flag ≡ 2 → P (clear_invalid_receive_of s r.id)) → (r.flag ≡ 3 → P (clear_octets_of s r.id))
    → (r.flag ≡ 4 → P (clear_red_of s r.id)) → P (told s (Refused NotSetUp)) → P (clear_of s r row)
unfolding clear_of
clear_by_lem P s r row f₁ f₂ f₃ f₄ none =
    if_by P (eqb r.flag 1) _ _ (λ e. f₁ (eqb-true _ _ e))
    (λ _. if_by P (eqb r.flag 2) _ _ (λ e. f₂ (eqb-true _ _ e))
    (λ _. if_by P (eqb r.flag 3) _ _ (λ e. f₃ (eqb-true _ _ e))
    (λ _. if_by P (eqb r.flag 4) _ _ (λ e. f₄ (eqb-true _ _ e)) (λ _. none))))
