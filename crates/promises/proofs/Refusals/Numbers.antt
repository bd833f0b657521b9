-- Demand 1: each refusal number is given exactly when document 01's table (`tries_of`) says, in its order.
use Rattle.std.specs.Prelude.{ℕ, zero, suc, Bool, not, cond, ◌&&◌, List, [], ◌∷◌, ◌≢◌, ◌↔◌, ◌⊎◌, ◌≡◌, eqb, leb, ltb, length, get_or, Ok, Err}
use Rattle.std.proofs.Math.Bool.{true, false}
use Rattle.std.proofs.Common.{inl, inr, ⊎_elim, sym, ◌∙◌, arith, eqb-true, eq-eqb, ne_eqb}
use Rattle.std.proofs.Math.Option.{Option, none, some}
use Rattle.std.proofs.Math.Path.{refl, ap}
use Rattle.sizes.specs.Meaning.{filter_count, entry_count}
use Rattle.logic.specs.Laws.{both}
use Rattle.record.specs.declared.Record.{Record}
use Rattle.record.specs.declared.ArrivalRecord.{ArrivalRecord}
use Rattle.record.specs.declared.ClearRecord.{ClearRecord}
use Rattle.record.specs.declared.PortRecord.{PortRecord}
use Rattle.record.specs.declared.GateRecord.{GateRecord}
use Rattle.record.specs.declared.GateEntryRecord.{GateEntryRecord}
use Rattle.record.specs.declared.MeterRecord.{MeterRecord}
use Rattle.record.specs.declared.GroupRecord.{GroupRecord}
use Rattle.record.specs.declared.SchedulerRecord.{SchedulerRecord}
use Rattle.record.specs.declared.StartRecord.{StartRecord}
use Rattle.record.specs.declared.Refusal.{Refusal}
use Rattle.record.specs.declared.Refusal.TheVariants.{CutShort, OutOfRange, OutOfTurn, SetUpAlready, NinthEntry, Missing, BurstTooSmall, NotSetUp, TableLength}
use Rattle.record.specs.Meaning.{Reading}
use Rattle.record.specs.declared.Kind.{Kind}
use Rattle.record.specs.Meaning.{body_in, kind_of, fields_of, values_at, fields_in_range, refusal_number_of, record_length, length_in, in_turn_of, read_as, read_of}
use Rattle.bank.specs.Meaning.{Rows, component, port, entries, gate_is_set, meter_is_set, group, scheduler_is_set}
use Rattle.filter.specs.Meaning.{Found, no_key}
use Rattle.filter.specs.Meaning.{is_filter_of, row_of, is_found, counts_of}
use Rattle.verdict.specs.Meaning.{Verdict}
use Rattle.verdict.specs.Meaning.{Refused, Taken}
use Rattle.verdict.specs.Meaning.{Told, told}
use Rattle.setup.specs.Meaning.{Listed, refused_if, set_port_of, set_gate_of, add_entry_of, set_meter_of, set_group_of, set_scheduler_of, start_of, incomplete_of, clear_oversize_of, clear_invalid_receive_of, clear_octets_of, clear_red_of, clear_of}
use Rattle.path.specs.Meaning.{arrival_of}
use Rattle.stage.specs.Meaning.{Bridge, Took, answered, refused_of, key_of, first_row, taken_of, read_by, started_of, take_of}
use Rattle.promises.specs.Meaning.{Call}
use Rattle.promises.proofs.Ways.{arrived_along}
use Rattle.promises.proofs.Refusals.Keeps.{frame_framed, framed_number, answered_verdict}
use Rattle.promises.specs.Refusals.Meaning.{refusal_in, refusal_of, Try, try, first_holding, StandsFirst, clearable_of, record_tries, empty_of, unknown_of, body_tries, kind_tries, octet_tries, tries_of}
use Rattle.record.specs.declared.Record.TheVariants as kind
use Rattle.filter.specs.Meaning as asks

-- ---- each record's own refusals

told_number : (used : ℕ) (v : Verdict) (n : ℕ) → refusal_in v ≡ n → refusal_in (answered used v).verdict ≡ n
told_number used v n e = ap refusal_in (answered_verdict used v) ∙ e

if_number : (t : Bool) (why : Refusal) (s : Rows) (x : Told) → refusal_in (refused_if t why s x).verdict ≡ cond t (refusal_number_of why) (refusal_in x.verdict)
unfolding refused_if
if_number true why s x = refl
if_number false why s x = refl

entry_number : (t : Bool) (x y : Listed) → x.verdict ≡ Taken → y.verdict ≡ Refused NinthEntry → refusal_in (cond t x y).verdict ≡ cond (not t) 6 0
entry_number true x y p q = ap refusal_in p
entry_number false x y p q = ap refusal_in q

place_number : (t : Bool) (b : Bridge) (o : Took) → o.answer.verdict ≡ Taken → refusal_in (cond t (refused_of b SetUpAlready) o).answer.verdict ≡ cond t 5 0
place_number true b o p = refl
place_number false b o p = ap refusal_in p

arrived_number : (s : Rows) (lists : List ℕ) (a : ArrivalRecord) (found : Found) → refusal_in (arrival_of s lists a found).verdict ≡ cond (ltb a.time (component s).clock) 9 0
arrived_number s lists a found =
    arrived_along s lists a found (λ t. refusal_in t.verdict ≡ cond (ltb a.time (component s).clock) 9 0)
    (record { back = λ e. rw e; unmatched = λ e p n. rw e; matched = λ e f row n. rw e (framed_number (frame_framed _ lists a f row)) })

flag_number : (e : Bool) (x y : Told) (cx cy : Bool) → refusal_in x.verdict ≡ cond (not cx) 10 0 → refusal_in y.verdict ≡ cond (not cy) 10 0 → refusal_in (cond e x y).verdict ≡ cond (not (cond e cx cy)) 10 0
flag_number true x y cx cy p q = p
flag_number false x y cx cy p q = q

clear_number : (b : Bridge) (r : ClearRecord) → refusal_in (clear_of b.bank r (row_of b.table r.id)).verdict ≡ cond (not (clearable_of b r)) 10 0
unfolding clear_of clear_oversize_of clear_invalid_receive_of clear_octets_of clear_red_of
clear_number b r =
    let row = row_of b.table r.id in
    let counts = counts_of b.bank row in
    let gated = gate_is_set b.bank r.id in
    let metered = meter_is_set b.bank r.id in
    flag_number (eqb r.flag 1) (clear_oversize_of b.bank r.id row) _ counts _ (if_number (not counts) NotSetUp _ _)
    (flag_number (eqb r.flag 2) (clear_invalid_receive_of b.bank r.id) _ gated _ (if_number (not gated) NotSetUp _ _)
    (flag_number (eqb r.flag 3) (clear_octets_of b.bank r.id) _ gated _ (if_number (not gated) NotSetUp _ _)
    (flag_number (eqb r.flag 4) (clear_red_of b.bank r.id) (told b.bank (Refused NotSetUp)) metered false (if_number (not metered) NotSetUp _ _) refl)))

module _ (s : Rows) where
  port_number : (r : PortRecord) → refusal_in (set_port_of s r).verdict ≡ cond (port s r.port).set 5 0
  unfolding set_port_of
  port_number r = if_number (port s r.port).set SetUpAlready s _

  gate_number : (r : GateRecord) → refusal_in (set_gate_of s r).verdict ≡ cond (gate_is_set s r.id) 5 0
  unfolding set_gate_of
  gate_number r = if_number (gate_is_set s r.id) SetUpAlready s _

  meter_number : (r : MeterRecord) → refusal_in (set_meter_of s r).verdict ≡ cond (meter_is_set s r.id) 5 0
  unfolding set_meter_of
  meter_number r = if_number (meter_is_set s r.id) SetUpAlready s _

  group_number : (r : GroupRecord) → refusal_in (set_group_of s r).verdict ≡ cond (group s r.id).set 5 0
  unfolding set_group_of
  group_number r = if_number (group s r.id).set SetUpAlready s _

  scheduler_number : (r : SchedulerRecord) → refusal_in (set_scheduler_of s r).verdict ≡ cond (scheduler_is_set s r.id) 5 0
  unfolding set_scheduler_of
  scheduler_number r = if_number (scheduler_is_set s r.id) SetUpAlready s _

  start_number : (r : StartRecord) (miss hit : Found) → refusal_in (start_of s r miss hit).verdict ≡ cond (incomplete_of s miss) 7 (cond (is_found hit) 8 0)
  unfolding start_of
  start_number r miss hit = if_number (incomplete_of s miss) Missing s _ ∙ ap (cond (incomplete_of s miss) 7) (if_number (is_found hit) BurstTooSmall s _)

  entry_ninth_number : (lists body : List ℕ) (r : GateEntryRecord) → refusal_in (add_entry_of s lists body r).verdict ≡ cond (not (ltb (entries s r.gate) entry_count)) 6 0
  unfolding add_entry_of
  entry_ninth_number lists body r = entry_number (ltb (entries s r.gate) entry_count) _ _ refl refl

module _ (b : Bridge) (c : Call) where
  record_number : (r : Record) (used : ℕ) → refusal_in (taken_of b c r used).answer.verdict ≡ first_holding (record_tries b r)
  unfolding taken_of
  record_number (kind.Port r) used = told_number used (set_port_of b.bank r).verdict _ (port_number b.bank r)
  record_number (kind.Filter r) used = place_number (is_filter_of (row_of b.table r.id)) b _ refl
  record_number (kind.Gate r) used = told_number used (set_gate_of b.bank r).verdict _ (gate_number b.bank r)
  record_number (kind.GateEntry r) used = told_number used (add_entry_of b.bank b.lists (body_in c used) r).verdict _ (entry_ninth_number b.bank b.lists (body_in c used) r)
  record_number (kind.Meter r) used = told_number used (set_meter_of b.bank r).verdict _ (meter_number b.bank r)
  record_number (kind.Group r) used = told_number used (set_group_of b.bank r).verdict _ (group_number b.bank r)
  record_number (kind.Scheduler r) used = told_number used (set_scheduler_of b.bank r).verdict _ (scheduler_number b.bank r)
  record_number (kind.Start r) used =
      let miss = first_row b asks.Missing no_key in
      let hit = first_row b asks.ExceedsBurst no_key in
      told_number used (start_of b.bank r miss hit).verdict _ (start_number b.bank r miss hit)
  record_number (kind.Arrival a) used =
      let found = first_row b asks.Fits (key_of a) in
      told_number used (arrival_of b.bank b.lists a found).verdict _ (arrived_number b.bank b.lists a found)
  record_number (kind.Clear r) used = told_number used (clear_of b.bank r (row_of b.table r.id)).verdict _ (clear_number b r)

  -- ---- then the octets

  abbrev readings : Bool → Bool → Bool → Record → ℕ → Reading
  readings whole in_turn ranged r used = cond whole (cond in_turn (cond ranged (Ok (r, used)) (Err OutOfRange)) (Err OutOfTurn)) (Err CutShort)

  reading_number : (whole in_turn ranged : Bool) (r : Record) (used : ℕ)
      → refusal_in (read_by b c (readings whole in_turn ranged r used)).answer.verdict ≡ first_holding (try 1 (not whole) ∷ try 4 (not in_turn) ∷ try 3 (not ranged) ∷ record_tries b r)
  unfolding read_by
  reading_number true true true r used = record_number r used
  reading_number true true false r used = refl
  reading_number true false ranged r used = refl
  reading_number false in_turn ranged r used = refl

  kind_number : (k : Option Kind) → refusal_in (read_by b c (read_as k (started_of b.bank) c)).answer.verdict ≡ first_holding (kind_tries b c k)
  unfolding read_by read_as
  kind_number none = refl
  kind_number (some k) = reading_number (leb (record_length k) (length c)) (in_turn_of k (started_of b.bank)) (fields_in_range k (values_at c 1 (fields_of k))) _ _

octets_number : (b : Bridge) (c : Call) → refusal_in (read_by b c (read_of c (started_of b.bank))).answer.verdict ≡ first_holding (try 1 (empty_of c) ∷ kind_tries b c (kind_of (get_or c 0 0)))
unfolding read_of read_by
octets_number b [] = refl
octets_number b (n ∷ s) = kind_number b (n ∷ s) (kind_of n)

table_number : (t : Bool) (b : Bridge) (o : Took) (ts : List Try) → refusal_in o.answer.verdict ≡ first_holding ts → refusal_in (cond t o (refused_of b TableLength)).answer.verdict ≡ first_holding (try 11 (not t) ∷ ts)
table_number true b o ts e = e
table_number false b o ts e = refl

-- the number that a call answers is that of the first row of document 01's table whose test holds, and it answers none where no test does
pub refusal_by_table : (b : Bridge) (c : Call) → refusal_of b c ≡ first_holding (tries_of b c)
unfolding take_of
refusal_by_table b c = table_number (eqb (length b.table) filter_count) b (read_by b c (read_of c (started_of b.bank))) (octet_tries b c) (octets_number b c)

-- ---- a number that stands in one row is the first exactly where that row stands first

-- no row has the number n
abbrev absent : ℕ → List Try → Bool
absent n [] = not (eqb n 0)
absent n (t ∷ ts) = not (eqb t.number n) && absent n ts

-- row k has the number n, and no other row has it
abbrev alone : ℕ → ℕ → List Try → Bool
alone n k [] = false
alone n zero (t ∷ ts) = eqb t.number n && absent n ts
alone n (suc k) (t ∷ ts) = not (eqb t.number n) && alone n k ts

differs : (m n : ℕ) → not (eqb m n) ≡ true → m ≢ n
differs m n e q = let h = eq-eqb m n q in let z : ◌≡◌ {A = ℕ} 0 1 = never (eqb m n) h e in omega arith
  where
    never : (t : Bool) → t ≡ true → not t ≡ true → ◌≡◌ {A = ℕ} 0 1
    never true p q = cc
    never false p q = cc

never_first : (n : ℕ) (ts : List Try) → absent n ts ≡ true → first_holding ts ≢ n
never_first n [] a e = differs n 0 a (sym e)
never_first n (t ∷ ts) a e = let p = both (not (eqb t.number n)) (absent n ts) a in by_test t.holds (differs t.number n p.0) (never_first n ts p.1) e
  where
    by_test : (h : Bool) → t.number ≢ n → first_holding ts ≢ n → cond h t.number (first_holding ts) ≡ n → ⊥
    by_test true p q e' = p e'
    by_test false p q e' = q e'

first_row_lem : (n k : ℕ) (ts : List Try) → alone n k ts ≡ true → first_holding ts ≡ n → StandsFirst k ts
first_row_lem n k [] a e = absurd (let z : ◌≡◌ {A = ℕ} 0 1 = cc in omega arith)
first_row_lem n zero (t ∷ ts) a e = by_test t.holds refl (never_first n ts (both (eqb t.number n) (absent n ts) a).1) e
  where
    by_test : (h : Bool) → t.holds ≡ h → first_holding ts ≢ n → cond h t.number (first_holding ts) ≡ n → t.holds ≡ true
    by_test true p q e' = p
    by_test false p q e' = absurd (q e')
first_row_lem n (suc k) (t ∷ ts) a e = let p = both (not (eqb t.number n)) (alone n k ts) a in by_test t.holds refl (differs t.number n p.0) (first_row_lem n k ts p.1) e
  where
    by_test : (h : Bool) → t.holds ≡ h → t.number ≢ n → (first_holding ts ≡ n → StandsFirst k ts) → cond h t.number (first_holding ts) ≡ n → (t.holds ≡ false) × StandsFirst k ts
    by_test true p q more e' = absurd (q e')
    by_test false p q more e' = (p, more e')

row_first : (n k : ℕ) (ts : List Try) → alone n k ts ≡ true → StandsFirst k ts → first_holding ts ≡ n
row_first n k [] a h = absurd h
row_first n zero (t ∷ ts) a h = ap (λ (u : Bool). cond u t.number (first_holding ts)) h ∙ eqb-true t.number n (both (eqb t.number n) (absent n ts) a).0
row_first n (suc k) (t ∷ ts) a h =
    ap (λ (u : Bool). cond u t.number (first_holding ts)) h.0 ∙ row_first n k ts (both (not (eqb t.number n)) (alone n k ts) a).1 h.1

-- of any table
pub first_given : (n k : ℕ) (ts : List Try) → alone n k ts ≡ true → (first_holding ts ≡ n) ↔ StandsFirst k ts
first_given n k ts a = (first_row_lem n k ts a, row_first n k ts a)

pub none_given : (n : ℕ) (ts : List Try) → absent n ts ≡ true → first_holding ts ≢ n
none_given = never_first

module _ (b : Bridge) (c : Call) where
  given : (n k : ℕ) → alone n k (tries_of b c) ≡ true → (refusal_of b c ≡ n) ↔ StandsFirst k (tries_of b c)
  given n k a = (λ e. first_row_lem n k (tries_of b c) a (sym (refusal_by_table b c) ∙ e), λ h. refusal_by_table b c ∙ row_first n k (tries_of b c) a h)

  -- for each number, the row of the table in which it stands (the rows are counted from 0): it is given exactly where that row's test holds
  -- and no test before it does
  pub refused_11 : (refusal_of b c ≡ 11) ↔ StandsFirst 0 (tries_of b c)
  refused_11 = given 11 0 refl

  pub refused_2 : (refusal_of b c ≡ 2) ↔ StandsFirst 2 (tries_of b c)
  refused_2 = given 2 2 refl

  pub refused_4 : (refusal_of b c ≡ 4) ↔ StandsFirst 4 (tries_of b c)
  refused_4 = given 4 4 refl

  pub refused_3 : (refusal_of b c ≡ 3) ↔ StandsFirst 5 (tries_of b c)
  refused_3 = given 3 5 refl

  pub refused_5 : (refusal_of b c ≡ 5) ↔ StandsFirst 6 (tries_of b c)
  refused_5 = given 5 6 refl

  pub refused_6 : (refusal_of b c ≡ 6) ↔ StandsFirst 7 (tries_of b c)
  refused_6 = given 6 7 refl

  pub refused_7 : (refusal_of b c ≡ 7) ↔ StandsFirst 8 (tries_of b c)
  refused_7 = given 7 8 refl

  pub refused_8 : (refusal_of b c ≡ 8) ↔ StandsFirst 9 (tries_of b c)
  refused_8 = given 8 9 refl

  pub refused_9 : (refusal_of b c ≡ 9) ↔ StandsFirst 10 (tries_of b c)
  refused_9 = given 9 10 refl

  pub refused_10 : (refusal_of b c ≡ 10) ↔ StandsFirst 11 (tries_of b c)
  refused_10 = given 10 11 refl

-- in plain words: "the lent filter table hasn't exactly 64 places", as many as there are filters
pub refused_11_length : (b : Bridge) (c : Call) → (refusal_of b c ≡ 11) ↔ (length b.table ≢ filter_count)
refused_11_length b c = (λ e. differs (length b.table) filter_count ((refused_11 b c).0 e), λ n. (refused_11 b c).1 (ap not (ne_eqb (length b.table) filter_count n)))

-- 1 stands in two rows: no octet, and (after 2) the body cut short
one_of_two : (t₀ t₁ t₂ t₃ : Bool) (ts : List Try) → absent 1 ts ≡ true → first_holding (try 11 t₀ ∷ try 1 t₁ ∷ try 2 t₂ ∷ try 1 t₃ ∷ ts) ≡ 1
    → StandsFirst 1 (try 11 t₀ ∷ try 1 t₁ ∷ try 2 t₂ ∷ try 1 t₃ ∷ ts) ⊎ StandsFirst 3 (try 11 t₀ ∷ try 1 t₁ ∷ try 2 t₂ ∷ try 1 t₃ ∷ ts)
one_of_two true t₁ t₂ t₃ ts a e = absurd (omega (arith, e))
one_of_two false true t₂ t₃ ts a e = inl (refl, refl)
one_of_two false false true t₃ ts a e = absurd (omega (arith, e))
one_of_two false false false true ts a e = inr (refl, (refl, (refl, refl)))
one_of_two false false false false ts a e = absurd (never_first 1 ts a e)

one_by_first : (t₀ t₁ : Bool) (ts : List Try) → StandsFirst 1 (try 11 t₀ ∷ try 1 t₁ ∷ ts) → first_holding (try 11 t₀ ∷ try 1 t₁ ∷ ts) ≡ 1
one_by_first t₀ t₁ ts h = rw (h.0, h.1)

one_by_second : (t₀ t₁ t₂ t₃ : Bool) (ts : List Try) → StandsFirst 3 (try 11 t₀ ∷ try 1 t₁ ∷ try 2 t₂ ∷ try 1 t₃ ∷ ts) → first_holding (try 11 t₀ ∷ try 1 t₁ ∷ try 2 t₂ ∷ try 1 t₃ ∷ ts) ≡ 1
one_by_second t₀ t₁ t₂ t₃ ts h = rw (h.0, h.1.0, h.1.1.0, h.1.1.1)

pub refused_1 : (b : Bridge) (c : Call) → (refusal_of b c ≡ 1) ↔ (StandsFirst 1 (tries_of b c) ⊎ StandsFirst 3 (tries_of b c))
refused_1 b c =
    let t₀ = not (eqb (length b.table) filter_count) in
    let t₁ = empty_of c in
    let t₂ = unknown_of (kind_of (get_or c 0 0)) in
    let t₃ = not (leb (length_in (kind_of (get_or c 0 0))) (length c)) in
    let ts = body_tries b c (kind_of (get_or c 0 0)) in (
      λ e. one_of_two t₀ t₁ t₂ t₃ ts refl (sym (refusal_by_table b c) ∙ e),
      λ h. refusal_by_table b c ∙ ⊎_elim (one_by_first t₀ t₁ (kind_tries b c (kind_of (get_or c 0 0)))) (one_by_second t₀ t₁ t₂ t₃ ts) h,
    )
