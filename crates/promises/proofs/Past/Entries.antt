-- Kind 4: the entry that the gate decodes from the octets of a list is the record's state, IPV, interval and maximum; and a list that takes an entry more is
-- the list before with that entry behind it.
use Prim.Native.Nat.{ℕ, zero, suc, ◌+◌, ◌*◌, ◌≤◌, ◌<◌}
use Rattle.std.specs.Prelude.{Bool, not, List, [], ◌∷◌, ◌++◌, map, ◌≡◌, eqb, length, get_or, take, drop, Ok}
use Rattle.std.proofs.Math.Path.{refl}
use Rattle.std.proofs.Common.{ap, ◌∙◌, arith, length-take, length-drop, get_or-take}
use Rattle.sizes.specs.Meaning.{gate_count, entry_count, entry_octets, list_octets, lists_octets}
use Rattle.gate.specs.declared.Entry.{Entry}
use Rattle.gate.specs.Meaning.{word_of, entry_at, entries_from, entries_in, entries_of}
use Rattle.record.specs.declared.GateEntryRecord.{GateEntryRecord}
use Rattle.record.specs.declared.Kind.{Kind}
use Rattle.record.specs.declared.Kind.TheVariants.{Port as port, Filter as filter, Gate as gate, GateEntry as gate_entry, Meter as meter, Group as group, Scheduler as scheduler, Start as start, Arrival as arrival, Clear as clear}
use Rattle.record.specs.Meaning.{fields_of, values_at, record_of, body_in, read_of}
use Rattle.record.proofs.Laws.{read_says, read_uses}
use Rattle.record.proofs.BodyLaws.{body_octet, read_entry_body}
use Rattle.setup.specs.Meaning.{entry_body_of}
use Rattle.promises.specs.Past.Meaning.{entry_of}
use Rattle.record.specs.declared.Record.TheVariants as kind

-- ---- one entry

-- a gate entry is read from octets that say kind 4
said_entry : (k : Kind) (c : List ℕ) (r : GateEntryRecord) → record_of k (values_at c 1 (fields_of k)) ≡ kind.GateEntry r → record_of gate_entry (values_at c 1 (fields_of gate_entry)) ≡ kind.GateEntry r
said_entry port c r e = absurd (let z : ◌≡◌ {A = ℕ} 0 1 = cc in omega arith)
said_entry filter c r e = absurd (let z : ◌≡◌ {A = ℕ} 0 1 = cc in omega arith)
said_entry gate c r e = absurd (let z : ◌≡◌ {A = ℕ} 0 1 = cc in omega arith)
said_entry gate_entry c r e = e
said_entry meter c r e = absurd (let z : ◌≡◌ {A = ℕ} 0 1 = cc in omega arith)
said_entry group c r e = absurd (let z : ◌≡◌ {A = ℕ} 0 1 = cc in omega arith)
said_entry scheduler c r e = absurd (let z : ◌≡◌ {A = ℕ} 0 1 = cc in omega arith)
said_entry start c r e = absurd (let z : ◌≡◌ {A = ℕ} 0 1 = cc in omega arith)
said_entry arrival c r e = absurd (let z : ◌≡◌ {A = ℕ} 0 1 = cc in omega arith)
said_entry clear c r e = absurd (let z : ◌≡◌ {A = ℕ} 0 1 = cc in omega arith)

same_entry : (r r' : GateEntryRecord) → kind.GateEntry r ≡ kind.GateEntry r' → r ≡ r'
same_entry r r' e = cc

-- the octets that a taken entry stores are decoded to what its record says
pub entry_kept : (c : List ℕ) (started : Bool) (r : GateEntryRecord) (used : ℕ) → read_of c started ≡ Ok (kind.GateEntry r, used) → entry_at (entry_body_of (body_in c used)) 0 ≡ entry_of r
entry_kept c started r used e =
    let y = read_says c started (kind.GateEntry r) used e in
    let x : GateEntryRecord = record {
      gate = get_or c 1 0;
      state = get_or c 2 0;
      ipv = get_or c 3 0;
      interval = ((get_or c 4 0 * 256 + get_or c 5 0) * 256 + get_or c 6 0) * 256 + get_or c 7 0;
      octet_maximum = ((get_or c 8 0 * 256 + get_or c 9 0) * 256 + get_or c 10 0) * 256 + get_or c 11 0;
    } in
    let u = read_uses c started (kind.GateEntry r) used e in
    let n : used ≡ 1 + entry_octets = (read_entry_body c started r used e).0 in
    let o : (k : ℕ) → k < entry_octets → get_or (body_in c used) k 0 ≡ get_or c (1 + k) 0 = λ k l. body_octet c used u.0 u.1 k (omega (arith, n, l)) in
    let i : word_of (entry_body_of (body_in c used)) 3 ≡ x.interval = omega (arith, o 3 (omega arith), o 4 (omega arith), o 5 (omega arith), o 6 (omega arith)) in
    let m : word_of (entry_body_of (body_in c used)) 7 ≡ x.octet_maximum = omega (arith, o 7 (omega arith), o 8 (omega arith), o 9 (omega arith), o 10 (omega arith)) in
    (λ j. record { opened = not (eqb (o 1 (omega arith) j) 0); ipv = o 2 (omega arith) j; interval = i j; maximum = m j })
    ∙ ap entry_of (same_entry x r (said_entry y.kind c r y.is))

-- entries whose octets agree are the same
pub entry_agrees : (s t : List ℕ) (i j : ℕ) → ((n : ℕ) → n < entry_octets → get_or s (i * entry_octets + n) 0 ≡ get_or t (j * entry_octets + n) 0) → entry_at s i ≡ entry_at t j
entry_agrees s t i j h = λ k. record { opened = not (eqb (h 1 (omega arith) k) 0); ipv = h 2 (omega arith) k; interval = words 3 (omega arith) k; maximum = words 7 (omega arith) k }
  where
    at : (n m : ℕ) → n + m < entry_octets → get_or s (i * entry_octets + n + m) 0 ≡ get_or t (j * entry_octets + n + m) 0
    at n m l =
        let e : i * entry_octets + n + m ≡ i * entry_octets + (n + m) = omega arith in
        let e' : j * entry_octets + (n + m) ≡ j * entry_octets + n + m = omega arith in
        ap (λ (x : ℕ). get_or s x 0) e ∙ h (n + m) l ∙ ap (λ (x : ℕ). get_or t x 0) e'

    words : (n : ℕ) → n + 3 < entry_octets → word_of s (i * entry_octets + n) ≡ word_of t (j * entry_octets + n)
    words n l =
        let a = h n (omega arith) in
        let b = at n 1 (omega arith) in
        let c = at n 2 (omega arith) in
        let d = at n 3 l in
        λ k. a k * 16_777_216 + b k * 65_536 + c k * 256 + d k

-- ---- the entries of a list

module _ (s t : List ℕ) where
  pub entries_agree : (i n : ℕ) → ((k : ℕ) → k < (i + n) * entry_octets → get_or s k 0 ≡ get_or t k 0) → entries_from s i n ≡ entries_from t i n
  unfolding entries_from
  entries_agree i zero h = refl
  entries_agree i (suc n) h =
      let first = entry_agrees s t i i (λ m l. h (i * entry_octets + m) (omega (arith, l))) in
      let rest = entries_agree (suc i) n (λ k l. h k (omega (arith, l))) in
      λ j. first j ∷ rest j

pub entries_more : (s : List ℕ) (i n : ℕ) → entries_from s i (suc n) ≡ entries_from s i n ++ (entry_at s (i + n) ∷ [])
unfolding entries_from
entries_more s i zero = let e : i ≡ i + 0 = omega arith in ap (λ (k : ℕ). entry_at s k ∷ []) e
entries_more s i (suc n) =
    let e : suc i + n ≡ i + suc n = omega arith in
    ap (λ (l : List Entry). entry_at s i ∷ l) (entries_more s (suc i) n ∙ ap (λ (k : ℕ). entries_from s (suc i) n ++ (entry_at s k ∷ [])) e)

pub map_more : {A B : Type 0} (f : A → B) (l : List A) (x : A) → map f (l ++ (x ∷ [])) ≡ map f l ++ (f x ∷ [])
map_more f [] x = refl
map_more f (y ∷ l) x = ap (λ r. f y ∷ r) (map_more f l x)

-- of the lists of all gates, the n entries of one, as the gate decodes them from the part that it is lent
pub list_entries : (lists : List ℕ) (i n : ℕ) → length lists ≡ lists_octets → i < gate_count → n ≤ entry_count → entries_of (take (n * entry_octets) (drop (i * list_octets) lists)) ≡ entries_from (drop (i * list_octets) lists) 0 n
list_entries lists i n whole l h =
    let part = take (n * entry_octets) (drop (i * list_octets) lists) in
    let count : length part ≡ n * entry_octets = length-take (n * entry_octets) (drop (i * list_octets) lists) ∙ (omega (arith, length-drop (i * list_octets) lists)) in
    let e : entries_in part ≡ n = omega (arith, count) in
    ap (entries_from part 0) e ∙ entries_agree part (drop (i * list_octets) lists) 0 n (λ k m. get_or-take (n * entry_octets) (drop (i * list_octets) lists) k 0 (omega (arith, m)))
