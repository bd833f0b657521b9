-- The body of a record that is read: which octets of the input it is, how many, and that none of them lies past the record's end.
use Rattle.std.specs.Prelude.{ℕ, ◌+◌, ◌-◌, ◌≤◌, ◌<◌, Bool, List, ◌++◌, ◌≡◌, length, get_or, take, drop, Ok}
use Rattle.std.proofs.Common.{ap, sym, ◌∙◌, arith, length-append, length-drop, length-take-le, get_or-take, get_or-drop}
use borrow.Author.Tests.{le-leb}
use Rattle.std.proofs.lemmas.List.{take-append-le, drop-append-le}
use Rattle.sizes.specs.Meaning.{entry_octets}
use Rattle.record.specs.declared.Record.{Record}
use Rattle.record.specs.declared.Record.TheVariants.{GateEntry}
use Rattle.record.specs.declared.GateEntryRecord.{GateEntryRecord}
use Rattle.record.specs.Meaning.{View, body_in, body_of, read_of}
use Rattle.record.proofs.Laws.{read_uses}
use Rattle.record.proofs.Ranges.{read_ranges}

-- ---- of a record that uses so many octets, all of them there

module _ (s : List ℕ) (used : ℕ) (l : 1 ≤ used) (h : used ≤ length s) where
  pub body_is : body_in s used ≡ take (used - 1) (drop 1 s)
  unfolding body_in
  body_is = rw (le-leb 1 used l, le-leb used (length s) h)

  pub body_length : length (body_in s used) ≡ used - 1
  body_length = ap (λ (b : List ℕ). length b) body_is ∙ length-take-le (used - 1) (drop 1 s) (omega (arith, length-drop 1 s, l, h))

  pub body_octet : (k : ℕ) → k < used - 1 → get_or (body_in s used) k 0 ≡ get_or s (1 + k) 0
  body_octet k m = ap (λ (b : List ℕ). get_or b k 0) body_is ∙ get_or-take (used - 1) (drop 1 s) k 0 m ∙ get_or-drop 1 s k 0

-- what follows the record changes nothing
pub body_extends : (s t : List ℕ) (used : ℕ) → 1 ≤ used → used ≤ length s → body_in (s ++ t) used ≡ body_in s used
body_extends s t used l h =
    body_is (s ++ t) used l (omega (arith, length-append s t, h))
    ∙ ap (take (used - 1)) (drop-append-le 1 s t (omega (arith, l, h)))
    ∙ take-append-le (used - 1) (drop 1 s) t (omega (arith, length-drop 1 s, l, h))
    ∙ sym (body_is s used l h)

-- ---- of a record that is read

-- `body` shows the octets that follow the kind, one less than reading says are used
pub read_body : (v : View) (started : Bool) (r : Record) (used : ℕ) → read_of v.octets started ≡ Ok (r, used)
    → ((body_of v used).octets ≡ take (used - 1) (drop 1 v.octets)) × (length (body_of v used).octets ≡ used - 1)
unfolding body_of
read_body v started r used e =
    let u = read_uses v.octets started r used e in
    (body_is v.octets used u.0 u.1, body_length v.octets used u.0 u.1)

-- of a gate entry, those that an entry keeps: eleven
pub read_entry_body : (s : List ℕ) (started : Bool) (r : GateEntryRecord) (used : ℕ) → read_of s started ≡ Ok (GateEntry r, used)
    → (used ≡ 1 + entry_octets) × ((body_in s used ≡ take entry_octets (drop 1 s)) × (length (body_in s used) ≡ entry_octets))
read_entry_body s started r used e =
    let u = read_uses s started (GateEntry r) used e in
    let n : used ≡ 12 = (read_ranges s started (GateEntry r) used e).0 in
    let k : used - 1 ≡ entry_octets = omega (arith, n) in
    (n, (body_is s used u.0 u.1 ∙ ap (λ (m : ℕ). take m (drop 1 s)) k, body_length s used u.0 u.1 ∙ k))
