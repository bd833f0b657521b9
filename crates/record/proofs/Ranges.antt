-- What a caller may rely on of a record that is read: the octets that it used, and its fields in range, as facts on numbers.
use Rattle.std.specs.Prelude.{ℕ, ◌≤◌, Bool, true, not, ◌&&◌, ◌||◌, List, [], ◌∷◌, ◌≢◌, ◌⊎◌, ◌≡◌, refl, leb, eqb, Ok}
use Rattle.std.proofs.Common.{inl, inr, ⊎_elim, subst, arith, leb-true, eqb-true, eq-eqb}
use Rattle.sizes.specs.Meaning.{last_filter, last_port, last_gate, last_meter, last_group, last_scheduler}
use Rattle.logic.specs.Laws.{both, either}
use Rattle.record.specs.declared.Record.{Record}
use Rattle.record.specs.declared.Record.TheVariants.{Port, Filter, Gate, GateEntry, Meter, Group, Scheduler, Start, Arrival, Clear}
use Rattle.record.specs.Meaning.{Kind, port, filter, gate, gate_entry, meter, group, scheduler, start, arrival, clear, Range, any, upto, between, upto_or_255, Field, within, all_within, kind_row, fields_of, fields_in_range, values_at, record_of, record_length, read_of}
use Rattle.record.proofs.Laws.{read_says}

abbrev pub Within : Range → ℕ → Type 0
Within any v = Unit {0}
Within (upto n) v = v ≤ n
Within (between m n) v = (m ≤ v) × (v ≤ n)
Within (upto_or_255 n) v = (v ≤ n) ⊎ (v ≡ 255)

abbrev pub AllWithin : List Field → List ℕ → Type 0
AllWithin [] vs = Unit {0}
AllWithin (f ∷ fs) [] = Unit {0}
AllWithin (f ∷ fs) (v ∷ vs) = Within f.range v × AllWithin fs vs

within_holds : (so : Bool) (r : Range) (v : ℕ) → within so r v ≡ true → (so ≡ true) × Within r v
within_holds so any v e = (e, tt)
within_holds so (upto n) v e = let p = both so (leb v n) e in (p.0, leb-true v n p.1)
within_holds so (between m n) v e =
    let p = both (so && leb m v) (leb v n) e in
    let q = both so (leb m v) p.0 in
    (q.0, (leb-true m v q.1, leb-true v n p.1))
within_holds so (upto_or_255 n) v e =
    let p = both so (leb v n || eqb v 255) e in
    (p.0, ⊎_elim (λ h. inl (leb-true v n h)) (λ h. inr (eqb-true v 255 h)) (either (leb v n) (eqb v 255) p.1))

pub all_within_lem : (so : Bool) (fs : List Field) (vs : List ℕ) → all_within so fs vs ≡ true → (so ≡ true) × AllWithin fs vs
all_within_lem so [] vs e = (e, tt)
all_within_lem so (f ∷ fs) [] e = (e, tt)
all_within_lem so (f ∷ fs) (v ∷ vs) e =
    let p = all_within_lem (within so f.range v) fs vs e in
    let q = within_holds so f.range v p.0 in
    (q.0, (q.1, p.1))

-- ---- by record

-- the octets that a record used, and the ranges of its fields
abbrev pub Ranged : Record → ℕ → Type 0
Ranged (Port r) used = (used ≡ 3) × (r.port ≤ last_port) × (r.overhead ≤ 64)
Ranged (Filter r) used =
    (used ≡ 14)
    × (r.id ≤ last_filter)
    × (r.any_handle ≤ 1)
    × (r.any_handle ≡ 1 → r.handle ≡ 0)
    × (r.priority ≤ 8)
    × (r.gate ≤ last_gate)
    × (r.max_sdu ≤ 2000)
    × (r.oversize_block ≤ 1)
    × ((r.meter ≤ last_meter) ⊎ (r.meter ≡ 255))
    × ((r.scheduler ≤ last_scheduler) ⊎ (r.scheduler ≡ 255))
Ranged (Gate r) used =
    (used ≡ 14) × (r.id ≤ last_gate) × (r.state ≤ 1) × (r.ipv ≤ 8) × (r.invalid_receive_block ≤ 1) × (r.octets_block ≤ 1) × (r.base_time ≤ 4_611_686_018_427_387_904)
Ranged (GateEntry r) used = (used ≡ 12) × (r.gate ≤ last_gate) × (r.state ≤ 1) × (r.ipv ≤ 8) × (1 ≤ r.interval) × (r.interval ≤ 1_000_000_000)
Ranged (Meter r) used =
    (used ≡ 30)
    × (r.id ≤ last_meter)
    × (r.cir.0 ≤ 10_000_000_000)
    × (r.cbs.0 ≤ 1_000_000)
    × (r.eir.0 ≤ 10_000_000_000)
    × (r.ebs.0 ≤ 1_000_000)
    × (r.coupling ≤ 1)
    × (r.colour_aware ≤ 1)
    × (r.drop_on_yellow ≤ 1)
    × (r.red_block ≤ 1)
Ranged (Group r) used = (used ≡ 6) × (r.id ≤ last_group) × (1 ≤ r.residence) × (r.residence ≤ 1_000_000_000)
Ranged (Scheduler r) used =
    (used ≡ 15) × (r.id ≤ last_scheduler) × (r.group ≤ last_group) × (1 ≤ r.cir.0) × (r.cir.0 ≤ 10_000_000_000) × (1 ≤ r.cbs.0) × (r.cbs.0 ≤ 1_000_000)
Ranged (Start r) used = (used ≡ 2) × (1 ≤ r.classes) × (r.classes ≤ 8)
Ranged (Arrival a) used =
    (used ≡ 18) × (a.port ≤ last_port) × (a.time ≤ 4_611_686_018_427_387_904) × (a.priority ≤ 7) × (a.drop_eligible ≤ 1) × (a.msdu ≤ 2000)
Ranged (Clear r) used = (used ≡ 3) × (1 ≤ r.flag) × (r.flag ≤ 4) × (r.id ≤ last_filter) × (r.flag ≢ 1 → r.id ≤ last_gate)

handle_fits_lem : (all handle : ℕ) → (not (eqb all 1) || eqb handle 0) ≡ true → all ≡ 1 → handle ≡ 0
handle_fits_lem all handle e h = eqb-true handle 0 (rw (eq-eqb all 1 h) at e)

id_fits_lem : (flag id : ℕ) → (leb id last_gate || eqb flag 1 && leb id last_filter) ≡ true → (id ≤ last_filter) × (flag ≢ 1 → id ≤ last_gate)
id_fits_lem flag id e =
    ⊎_elim (λ h. let l = leb-true id last_gate h in (omega arith, λ n. l))
    (λ h.
    let p = both (eqb flag 1) (leb id last_filter) h in
    (leb-true id last_filter p.1, λ n. absurd (n (eqb-true flag 1 p.0))))
    (either (leb id last_gate) (eqb flag 1 && leb id last_filter) e)

kind_ranges : (k : Kind) (s : List ℕ) → fields_in_range k (values_at s 1 (fields_of k)) ≡ true → Ranged (record_of k (values_at s 1 (fields_of k))) (record_length k)
kind_ranges k s e = by_kind k (all_within_lem ((kind_row k).agree (values_at s 1 (fields_of k))) (fields_of k) (values_at s 1 (fields_of k)) e)
  where
    by_kind : (j : Kind) → ((kind_row j).agree (values_at s 1 (fields_of j)) ≡ true) × AllWithin (fields_of j) (values_at s 1 (fields_of j)) → Ranged (record_of j (values_at s 1 (fields_of j))) (record_length j)
    by_kind port h = omega arith
    by_kind filter h = let w = h.1 in (refl, w.0, w.1.0, handle_fits_lem _ _ h.0, w.1.1.1.0, w.1.1.1.1.0, w.1.1.1.1.1.0, w.1.1.1.1.1.1.0, w.1.1.1.1.1.1.1.0, w.1.1.1.1.1.1.1.1.0)
    by_kind gate h = omega arith
    by_kind gate_entry h = omega arith
    by_kind meter h = omega arith
    by_kind group h = omega arith
    by_kind scheduler h = omega arith
    by_kind start h = omega arith
    by_kind arrival h = omega arith
    by_kind clear h = let i = id_fits_lem _ _ h.0 in (refl, h.1.0.0, h.1.0.1, i.0, i.1)

pub read_ranges : (s : List ℕ) (started : Bool) (r : Record) (used : ℕ) → read_of s started ≡ Ok (r, used) → Ranged r used
read_ranges s started r used e =
    let y = read_says s started r used e in
    subst (λ (q : Record). Ranged q used) y.is (subst (Ranged (record_of y.kind (values_at s 1 (fields_of y.kind)))) y.uses (kind_ranges y.kind s y.in_range))
