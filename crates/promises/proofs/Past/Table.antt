-- Document 01's table of refusals in terms of the records taken: over every history from fresh, a call answers the number of the first row whose test on
-- the past holds.
use Rattle.std.specs.Prelude.{ℕ, ◌≤◌, Bool, true, false, not, List, [], ◌∷◌, ◌≢◌, ◌↔◌, ◌≡◌, refl, eqb, leb, ltb, length, get_or, Ok}
use Rattle.std.proofs.Math.Option.{Option, none, some}
use Rattle.std.proofs.Common.{sym, ap, ◌∙◌, arith, leb-true, le-leb, ltb-true, ltb-false, eq-eqb}
use Rattle.std.proofs.lemmas.Bool.{lt-leb, eqb-false, not-false}
use Rattle.sizes.specs.Meaning.{filter_count, entry_count, last_gate}
use Rattle.logic.specs.Laws.{by_test}
use Rattle.record.specs.declared.Record.{Record}
use Rattle.record.specs.declared.ClearRecord.{ClearRecord}
use Rattle.record.specs.declared.Kind.{Kind}
use Rattle.record.specs.Meaning.{kind_of, comes, in_turn_of, fields_in_range, record_of, record_length, fields_of, values_at, read_of}
use Rattle.record.proofs.Sorts.{turn_in}
use Rattle.record.proofs.Laws.{says_read, read_in_turn}
use Rattle.record.proofs.Ranges.{read_ranges}
use Rattle.bank.specs.Meaning.{Rows, component_row}
use Rattle.filter.specs.Meaning.{row_of}
use Rattle.stage.specs.Meaning.{Bridge, started_of}
use Rattle.promises.specs.Meaning.{Call, run_of, fresh}
use Rattle.promises.specs.Refusals.Meaning.{refusal_of, Try, try, first_holding, StandsFirst, clearable_of, record_tries, kind_tries, octet_tries, empty_of}
use Rattle.promises.proofs.Refusals.Numbers.{refusal_by_table, first_given, none_given}
use Rattle.promises.specs.Past.Meaning.{Known, known_of, past_of, started_in, already_in, ninth_in, missing_in, exceeds_in, early_in, clearable_in, absent_in, tries_by, tries_in}
use Rattle.promises.proofs.Past.Agrees.{InRange, Agrees}
use Rattle.promises.proofs.Past.Words.{filter_set, port_set, gate_set, entry_count_lem, meter_set, group_set, scheduler_set}
use Rattle.promises.proofs.Past.Tests.{counts_said, incomplete_said, exceeds_found}
use Rattle.promises.proofs.Past.Kept.{run_agrees_fresh}
use Rattle.record.specs.declared.Record.TheVariants as kind

-- ---- the tests of a record that is read

not_below : (n m : ℕ) → not (ltb n m) ≡ leb m n
not_below n m = by_test (ltb n m) (λ t. ap not t ∙ sym (lt-leb m n (ltb-true n m t))) (λ t. ap not t ∙ sym (le-leb m n (ltb-false n m t)))

abbrev record_tries_in : Known → Record → List Try
record_tries_in k r = try 5 (already_in k r) ∷ try 6 (ninth_in k r) ∷ try 7 (missing_in k r) ∷ try 8 (exceeds_in k r) ∷ try 9 (early_in k r) ∷ try 10 (absent_in k r) ∷ []

module _ (k : Known) (b : Bridge) (a : Agrees k b) where
  abbrev s : Rows
  s = b.bank

  clearable_said : (x : ClearRecord) → InRange (kind.Clear x) → started_in k ≡ true → clearable_of b x ≡ clearable_in k x
  clearable_said x ranged started =
      by_test (eqb x.flag 1)
      (λ t. rw t (counts_said k s a.bank (k.filter x.id) (row_of b.table x.id) (a.filters x.id) (a.complete started x.id (omega (arith, ranged.ranges)))))
      (λ t.
      let low : x.id ≤ last_gate = ranged.ranges.4 (eqb-false x.flag 1 t) in
      rw (t, gate_set k s a.bank x.id (omega (arith, low)), meter_set k s a.bank x.id (omega (arith, low))))

  same_tries : (r : Record) → InRange r → comes (turn_in r) (started_in k) ≡ true → record_tries b r ≡ record_tries_in k r
  same_tries (kind.Port x) ranged turn = rw (port_set k s a.bank x.port (omega (arith, ranged.ranges)))
  same_tries (kind.Filter x) ranged turn = rw (filter_set (k.filter x.id) (row_of b.table x.id) (a.filters x.id))
  same_tries (kind.Gate x) ranged turn = rw (gate_set k s a.bank x.id (omega (arith, ranged.ranges)))
  same_tries (kind.GateEntry x) ranged turn = rw (entry_count_lem k s a.bank x.gate (omega (arith, ranged.ranges)), not_below (length (k.entries x.gate)) entry_count)
  same_tries (kind.Meter x) ranged turn = rw (meter_set k s a.bank x.id (omega (arith, ranged.ranges)))
  same_tries (kind.Group x) ranged turn = rw (group_set k s a.bank x.id (omega (arith, ranged.ranges)))
  same_tries (kind.Scheduler x) ranged turn = rw (scheduler_set k s a.bank x.id (omega (arith, ranged.ranges)))
  same_tries (kind.Start x) ranged turn = rw (incomplete_said k b a.bank a.filters, exceeds_found k b a.bank a.filters)
  same_tries (kind.Arrival x) ranged turn = rw ((a.bank component_row).stage refl).clocks
  same_tries (kind.Clear x) ranged turn = rw (clearable_said x ranged turn)

-- ---- the table: a test matters only where none before it holds

alike_after : (empty short early ranged : Bool) (ts ts' : List Try) → (short ≡ false → early ≡ false → ranged ≡ false → first_holding ts ≡ first_holding ts')
    → first_holding (try 1 empty ∷ try 2 false ∷ try 1 short ∷ try 4 early ∷ try 3 ranged ∷ ts) ≡ first_holding (try 1 empty ∷ try 2 false ∷ try 1 short ∷ try 4 early ∷ try 3 ranged ∷ ts')
alike_after true short early ranged ts ts' h = refl
alike_after false true early ranged ts ts' h = refl
alike_after false false true ranged ts ts' h = refl
alike_after false false false true ts ts' h = refl
alike_after false false false false ts ts' h = h refl refl refl

module _ (k : Known) (b : Bridge) (a : Agrees k b) (c : Call) where
  starts : started_of b.bank ≡ started_in k
  starts = ((a.bank component_row).stage refl).starts

  kind_alike : (o : Option Kind) → kind_of (get_or c 0 0) ≡ o → first_holding (try 1 (empty_of c) ∷ kind_tries b c o) ≡ first_holding (tries_by k c o)
  kind_alike none e = refl
  kind_alike (some j) e =
      let r = record_of j (values_at c 1 (fields_of j)) in
      rw starts
      (alike_after (empty_of c) (not (leb (record_length j) (length c))) (not (in_turn_of j (started_in k))) (not (fields_in_range j (values_at c 1 (fields_of j)))) (record_tries b r) (record_tries_in k r)
      (λ whole turn ranged. read_alike (not-false _ whole) (not-false _ turn) (not-false _ ranged)))
    where
      read_alike : leb (record_length j) (length c) ≡ true → in_turn_of j (started_in k) ≡ true → fields_in_range j (values_at c 1 (fields_of j)) ≡ true
          → first_holding (record_tries b (record_of j (values_at c 1 (fields_of j)))) ≡ first_holding (record_tries_in k (record_of j (values_at c 1 (fields_of j))))
      read_alike whole turn ranged =
          let r = record_of j (values_at c 1 (fields_of j)) in
          let said : read_of c (started_in k) ≡ Ok (r, (record_length j))
          = says_read c (started_in k) r (record_length j) (record { kind = j; said = e; whole = leb-true _ _ whole; in_turn = turn; in_range = ranged; is = refl; uses = refl }) in
          ap first_holding
          (same_tries k b a r (record { used = record_length j; ranges = read_ranges c (started_in k) r (record_length j) said }) (read_in_turn c (started_in k) r (record_length j) said))

  refusal_said : refusal_of b c ≡ first_holding (tries_by k c (kind_of (get_or c 0 0)))
  refusal_said = refusal_by_table b c ∙ ap (λ (t : Bool). first_holding (try 11 (not t) ∷ octet_tries b c)) (eq-eqb (length b.table) filter_count a.places) ∙ kind_alike (kind_of (get_or c 0 0)) refl

-- over every history from fresh, the number that a call answers is that of the first row whose test on the records taken holds, and it answers none
-- where no test does
pub refusal_by_past : (cs : List Call) (c : Call) → refusal_of (run_of fresh cs) c ≡ first_holding (tries_in (past_of fresh cs) c)
refusal_by_past cs c = refusal_said (known_of (past_of fresh cs)) (run_of fresh cs) (run_agrees_fresh cs) c

-- ---- each number that looks at the past: it is given exactly where its row's test on the past holds (the rows are counted from 0), and no test before it does

module _ (cs : List Call) (c : Call) where
  abbrev refusal : ℕ
  refusal = refusal_of (run_of fresh cs) c

  abbrev rows : List Try
  rows = tries_in (past_of fresh cs) c

  carried : (n k : ℕ) → (first_holding rows ≡ n) ↔ StandsFirst k rows → (refusal ≡ n) ↔ StandsFirst k rows
  carried n k h = (λ e. h.0 (sym (refusal_by_past cs c) ∙ e), λ f. refusal_by_past cs c ∙ h.1 f)

  pub past_4 : (refusal ≡ 4) ↔ StandsFirst 3 rows
  past_4 = carried 4 3 (first_given 4 3 rows refl)

  pub past_5 : (refusal ≡ 5) ↔ StandsFirst 5 rows
  past_5 = carried 5 5 (first_given 5 5 rows refl)

  pub past_6 : (refusal ≡ 6) ↔ StandsFirst 6 rows
  past_6 = carried 6 6 (first_given 6 6 rows refl)

  pub past_7 : (refusal ≡ 7) ↔ StandsFirst 7 rows
  past_7 = carried 7 7 (first_given 7 7 rows refl)

  pub past_8 : (refusal ≡ 8) ↔ StandsFirst 8 rows
  past_8 = carried 8 8 (first_given 8 8 rows refl)

  pub past_9 : (refusal ≡ 9) ↔ StandsFirst 9 rows
  past_9 = carried 9 9 (first_given 9 9 rows refl)

  pub past_10 : (refusal ≡ 10) ↔ StandsFirst 10 rows
  past_10 = carried 10 10 (first_given 10 10 rows refl)

  -- the filter table has its places
  pub past_never_11 : refusal ≢ 11
  past_never_11 e = none_given 11 rows refl (sym (refusal_by_past cs c) ∙ e)
