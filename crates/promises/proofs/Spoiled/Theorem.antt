-- A spoiled row is an empty row (01, the filter table's paragraph): the same call on the table with that place emptied answers the same, and
-- leaves the same bank, the same lists and, at every other place, the same table.
use Rattle.std.specs.Prelude.{ℕ, Bool, true, false, not, cond, List, ◌≡◌, ltb, length, set, Ok, Err}
use Rattle.std.proofs.Math.Path.{refl}
use Rattle.std.proofs.Common.{sym, ap, ◌∙◌, arith, ltb-true, ltb-false, eqb-true, length-set, get_or-set_same, get_or-set_other, set-set}
use Rattle.std.proofs.Math.Decide.{ℕ_discrete}
use Rattle.std.proofs.lemmas.Bool.{not-true}
use Rattle.std.proofs.Math.Dec.{eqb}
use Rattle.std.proofs.Math.ListN.{get_or-eq_default}
use Rattle.std.proofs.Math.Seq.{set_out}
use Rattle.std.proofs.lemmas.List.{set_comm}
use Rattle.sizes.specs.Meaning.{filter_count}
use Rattle.record.specs.declared.Record.{Record}
use Rattle.record.specs.declared.ArrivalRecord.{ArrivalRecord}
use Rattle.record.specs.declared.ClearRecord.{ClearRecord}
use Rattle.record.specs.declared.StartRecord.{StartRecord}
use Rattle.record.specs.declared.Refusal.TheVariants.{TableLength, SetUpAlready}
use Rattle.record.specs.Meaning.{Reading}
use Rattle.record.specs.Meaning.{read_of}
use Rattle.record.proofs.Laws.{read_in_turn}
use Rattle.bank.specs.Meaning.{Rows}
use Rattle.filter.specs.declared.Filter.{Filter}
use Rattle.filter.specs.Meaning.{Fits, Missing, ExceedsBurst, no_key}
use Rattle.filter.specs.Meaning.{Found}
use Rattle.filter.specs.Meaning.{no_row, is_filter_of, counts_of, row_of}
use Rattle.filter.proofs.SearchLaws.{search_spoiled, search_no_filter}
use Rattle.verdict.specs.Meaning.{Taken}
use Rattle.verdict.specs.Meaning.{Answer}
use Rattle.verdict.specs.Meaning.{Told}
use Rattle.setup.specs.Meaning.{start_of, clear_oversize_of, clear_of}
use Rattle.path.specs.Meaning.{arrival_of}
use Rattle.stage.specs.Meaning.{Bridge, took, answered, refused_of, bank_took, filter_of, key_of, first_row, taken_of, read_by, started_of, take_of}
use Rattle.promises.specs.Meaning.{Call}
use Rattle.promises.specs.Spoiled.Meaning.{spoiled_at, emptied, but_for}
use Rattle.record.specs.declared.Record.TheVariants as kind

-- ---- rows of the emptied table

module _ (table : List Filter) (i : ℕ) where
  row_emptied : row_of (set table i no_row) i ≡ no_row
  row_emptied = by_test (ltb i (length table)) refl
    where
      by_test : (t : Bool) → ltb i (length table) ≡ t → row_of (set table i no_row) i ≡ no_row
      by_test true e = get_or-set_same table i no_row no_row (ltb-true i (length table) e)
      by_test false e = ap (λ (l : List Filter). row_of l i) (set_out table i no_row (ltb-false i (length table) e)) ∙ get_or-eq_default table no_row (ltb-false i (length table) e)

  -- a test that the row fails, as the empty row does, can't tell
  test_emptied : (test : Filter → Bool) → test no_row ≡ false → test (row_of table i) ≡ false → (j : ℕ) → test (row_of (set table i no_row) j) ≡ test (row_of table j)
  test_emptied test none e j = by_place (ℕ_discrete j i)
    where
      by_place : Dec (j ≡ i) → test (row_of (set table i no_row) j) ≡ test (row_of table j)
      by_place (yes p) = ap (λ (k : ℕ). test (row_of (set table i no_row) k)) p ∙ ap test row_emptied ∙ none ∙ sym e ∙ ap (λ (k : ℕ). test (row_of table k)) (sym p)
      by_place (no n) = ap test (get_or-set_other table i j no_row no_row n)

no_filter : is_filter_of no_row ≡ false
unfolding is_filter_of
no_filter = refl

no_count : (s : Rows) → counts_of s no_row ≡ false
unfolding counts_of is_filter_of
no_count s = refl

-- ---- a call

module _ (b : Bridge) (i : ℕ) where
  -- of a call that doesn't write the table
  same_table : (s : Rows) (l : List ℕ) (a : Answer) → took (set b.table i no_row) s l a ≡ took (set (set b.table i no_row) i no_row) s l a
  same_table s l a = ap (λ (rows : List Filter). took rows s l a) (sym (set-set b.table i no_row no_row))

  same_told : (used : ℕ) (t t' : Told) → t ≡ t' → but_for i (bank_took b used t) ≡ but_for i (bank_took (emptied i b) used t')
  same_told used t t' e = same_table t.bank b.lists (answered used t.verdict) ∙ ap (λ (u : Told). but_for i (bank_took (emptied i b) used u)) e

  -- a filter's record
  stored : (k : ℕ) (row : Filter) → Dec (k ≡ i) → set (set b.table k row) i no_row ≡ set (set (set b.table i no_row) k row) i no_row
  stored k row (yes e) =
      ap (λ (j : ℕ). set (set b.table j row) i no_row) e ∙ set-set b.table i row no_row
      ∙ sym (ap (λ (j : ℕ). set (set (set b.table i no_row) j row) i no_row) e ∙ set-set (set b.table i no_row) i row no_row ∙ set-set b.table i no_row no_row)
  stored k row (no n) =
      set_comm b.table k i row no_row n
      ∙ sym (set_comm (set b.table i no_row) k i row no_row n ∙ ap (λ (l : List Filter). set l k row) (set-set b.table i no_row no_row))

  placed : (t t' : Bool) (k used : ℕ) (row : Filter) → t' ≡ t
      → but_for i (cond t (refused_of b SetUpAlready) (took (set b.table k row) b.bank b.lists (answered used Taken)))
      ≡ but_for i (cond t' (refused_of (emptied i b) SetUpAlready) (took (set (set b.table i no_row) k row) b.bank b.lists (answered used Taken)))
  placed true true k used row e = same_table _ _ _
  placed false false k used row e = ap (λ (rows : List Filter). took rows b.bank b.lists (answered used Taken)) (stored k row (ℕ_discrete k i))
  placed true false k used row e = absurd (let z : ◌≡◌ {A = ℕ} 0 1 = cc in omega arith)
  placed false true k used row e = absurd (let z : ◌≡◌ {A = ℕ} 0 1 = cc in omega arith)

-- a clear looks at whether the row counts, and at nothing else of it
clear_alike : (s : Rows) (r : ClearRecord) (row row' : Filter) → counts_of s row ≡ counts_of s row' → clear_of s r row ≡ clear_of s r row'
unfolding clear_of clear_oversize_of
clear_alike s r row row' e = rw e

unless : (t x y : Bool) → t ≡ false → not (cond t x y) ≡ true → y ≡ false
unless true x y p e = absurd (let z : ◌≡◌ {A = ℕ} 0 1 = cc in omega arith)
unless false x y p e = not-true y e

once : (t x y : Bool) → t ≡ true → not (cond t x y) ≡ true → x ≡ false
once true x y p e = not-true x e
once false x y p e = absurd (let z : ◌≡◌ {A = ℕ} 0 1 = cc in omega arith)

module _ (b : Bridge) (c : Call) (i : ℕ) (spoiled : spoiled_at b i ≡ true) where
  abbrev started : Bool
  started = started_of b.bank

  abbrev row : Filter
  row = row_of b.table i

  before_start : started ≡ false → is_filter_of row ≡ false
  before_start e = unless started (counts_of b.bank row) (is_filter_of row) e spoiled

  after_start : started ≡ true → counts_of b.bank row ≡ false
  after_start e = once started (counts_of b.bank row) (is_filter_of row) e spoiled

  start_spoiled : (r : StartRecord) → started ≡ false → start_of b.bank r (first_row b Missing no_key) (first_row b ExceedsBurst no_key) ≡ start_of b.bank r (first_row (emptied i b) Missing no_key) (first_row (emptied i b) ExceedsBurst no_key)
  start_spoiled r e =
      ap (λ (miss : Found). start_of b.bank r miss (first_row b ExceedsBurst no_key)) (sym (search_no_filter b.bank _ b.table i tt (before_start e)))
      ∙ ap (start_of b.bank r (first_row (emptied i b) Missing no_key)) (sym (search_no_filter b.bank _ b.table i tt (before_start e)))

  -- an arrival uses the same row
  arrival_spoiled : (a : ArrivalRecord) → started ≡ true → arrival_of b.bank b.lists a (first_row b Fits (key_of a)) ≡ arrival_of b.bank b.lists a (first_row (emptied i b) Fits (key_of a))
  arrival_spoiled a e = ap (arrival_of b.bank b.lists a) (sym (search_spoiled b.bank _ b.table i refl (after_start e)))

  record_spoiled : (r : Record) (used : ℕ) → length b.table ≡ filter_count → read_of c started ≡ Ok (r, used) → but_for i (taken_of b c r used) ≡ but_for i (taken_of (emptied i b) c r used)
  unfolding taken_of
  record_spoiled (kind.Port r) used full e = same_table b i _ _ _
  record_spoiled (kind.Filter r) used full e =
      placed b i (is_filter_of (row_of b.table r.id)) (is_filter_of (row_of (set b.table i no_row) r.id)) r.id used (filter_of r)
      (test_emptied b.table i is_filter_of no_filter (before_start (not-true started (read_in_turn c started (kind.Filter r) used e))) r.id)
  record_spoiled (kind.Gate r) used full e = same_table b i _ _ _
  record_spoiled (kind.GateEntry r) used full e = same_table b i _ _ _
  record_spoiled (kind.Meter r) used full e = same_table b i _ _ _
  record_spoiled (kind.Group r) used full e = same_table b i _ _ _
  record_spoiled (kind.Scheduler r) used full e = same_table b i _ _ _
  record_spoiled (kind.Start r) used full e = same_told b i used _ _ (start_spoiled r (not-true started (read_in_turn c started (kind.Start r) used e)))
  record_spoiled (kind.Arrival a) used full e = same_told b i used _ _ (arrival_spoiled a (read_in_turn c started (kind.Arrival a) used e))
  record_spoiled (kind.Clear r) used full e =
      same_told b i used _ _
      (clear_alike b.bank r (row_of b.table r.id) (row_of (set b.table i no_row) r.id)
      (sym (test_emptied b.table i (counts_of b.bank) (no_count b.bank) (after_start (read_in_turn c started (kind.Clear r) used e)) r.id)))

  reading_spoiled : length b.table ≡ filter_count → (rd : Reading) → read_of c started ≡ rd → but_for i (read_by b c rd) ≡ but_for i (read_by (emptied i b) c rd)
  unfolding read_by
  reading_spoiled full (Err why) e = same_table b i _ _ _
  reading_spoiled full (Ok (r, used)) e = record_spoiled r used full e

  table_spoiled : (t t' : Bool) → eqb (length b.table) filter_count ≡ t → t' ≡ t
      → but_for i (cond t (read_by b c (read_of c started)) (refused_of b TableLength)) ≡ but_for i (cond t' (read_by (emptied i b) c (read_of c started)) (refused_of (emptied i b) TableLength))
  table_spoiled true true e q = reading_spoiled (eqb-true _ _ e) (read_of c started) refl
  table_spoiled false false e q = same_table b i _ _ _
  table_spoiled true false e q = absurd (let z : ◌≡◌ {A = ℕ} 0 1 = cc in omega arith)
  table_spoiled false true e q = absurd (let z : ◌≡◌ {A = ℕ} 0 1 = cc in omega arith)

  -- the same call on the table with the spoiled place emptied: the same answer, bank and lists, and the same table but for that place
  pub spoiled_as_empty : but_for i (take_of b c) ≡ but_for i (take_of (emptied i b) c)
  unfolding take_of
  spoiled_as_empty = table_spoiled _ (eqb (length (set b.table i no_row)) filter_count) refl (ap (λ (n : ℕ). eqb n filter_count) (length-set b.table i no_row))
