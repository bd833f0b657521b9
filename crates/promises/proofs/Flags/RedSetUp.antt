-- In every history from fresh, a red flag that stands is that of a meter that is set up.
use Rattle.std.specs.Prelude.{ℕ, ◌≤◌, ◌<◌, true, false, not, List, [], ◌∷◌, ◌≢◌, ◌≡◌, refl, eqb, Some}
use Rattle.std.proofs.Common.{sym, ap, ◌∙◌, arith}
use Rattle.std.proofs.Math.Decide.{ℕ_discrete}
use Rattle.std.proofs.lemmas.Bool.{eqb-false}
use Rattle.logic.specs.Laws.{both}
use Rattle.meter.specs.declared.Meter.{Meter}
use Rattle.meter.specs.Meaning.{fresh_meter_of}
use Rattle.record.specs.declared.Record.{Record}
use Rattle.record.specs.declared.ArrivalRecord.{ArrivalRecord}
use Rattle.record.specs.declared.ClearRecord.{ClearRecord}
use Rattle.record.specs.declared.MeterRecord.{MeterRecord}
use Rattle.record.specs.declared.Refusal.TheVariants.{NotSetUp, SetUpAlready}
use Rattle.record.specs.Meaning.{body_in}
use Rattle.record.proofs.Sorts.{Setup, Sort, setup, arrival, clear, sort_of}
use Rattle.bank.specs.Meaning.{Rows, with_row, word, is_set, counters_row, gate_state_row, meter_row, meter_state_row, row_of_meter, row_of_meter_state, gate_is_set, meter, meter_is_set, with_meter, with_meter_state, meters_from, groups_from, component_row, scheduler_row, group_row, port_row}
use Rattle.bank.proofs.Rows.{row_same, row_other}
use Rattle.filter.specs.declared.Filter.{Filter}
use Rattle.filter.specs.Meaning.{Found, no_key}
use Rattle.filter.specs.Meaning.{Fits, Missing, ExceedsBurst}
use Rattle.filter.specs.Meaning.{Question}
use Rattle.filter.specs.Meaning.{counts_of, fits_of, search_of}
use Rattle.filter.proofs.Laws.{answers_asked, counts_meter}
use Rattle.filter.proofs.SearchLaws.{search_finds}
use Rattle.verdict.specs.Meaning.{Told}
use Rattle.setup.specs.Meaning.{set_port_of, set_gate_of, add_entry_of, set_meter_of, set_group_of, set_scheduler_of, start_of, red_low, clear_oversize_of, clear_invalid_receive_of, clear_octets_of, clear_red_of, clear_of}
use Rattle.setup.proofs.Cases.{refused_by, clear_by_lem}
use Rattle.setup.proofs.Laws.{port_other, gate_other, group_other, scheduler_other, start_other}
use Rattle.path.specs.Meaning.{arrival_of}
use Rattle.stage.specs.Meaning.{Bridge, Took, first_row, taken_of, take_of}
use Rattle.promises.specs.Meaning.{Call, fresh, run_of}
use Rattle.promises.proofs.Flags.Standing.{stands, kept_row, away}
use Rattle.promises.proofs.Untouched.{setup_holds, entry_row}
use Rattle.promises.proofs.Ways.{metered, Kept, frame_keeps, arrived_along, Called, unread, read, called_way}

-- every red flag that stands is that of a meter that is set up
abbrev pub RedSetUp : Rows → Type 0
RedSetUp s = (i : ℕ) → stands 3 s (meter_state_row i) → stands 0 s (meter_row i)

-- ---- what leaves the meters' rows

kept : (s t : Rows) → ((i : ℕ) → t (meter_row i) ≡ s (meter_row i)) → ((i : ℕ) → t (meter_state_row i) ≡ s (meter_state_row i)) → RedSetUp s → RedSetUp t
kept s t e e' k i h = kept_row 0 s t (meter_row i) (e i) (k i (kept_row 3 t s (meter_state_row i) (sym (e' i)) h))

apart : (s : Rows) (r : ℕ) (vs : List ℕ) → ((i : ℕ) → meter_row i ≢ r) → ((i : ℕ) → meter_state_row i ≢ r) → RedSetUp s → RedSetUp (with_row s r vs)
apart s r vs n n' = kept s (with_row s r vs) (λ i. row_other s r vs (meter_row i) (n i)) (λ i. row_other s r vs (meter_state_row i) (n' i))

-- ---- a frame. Its filter's meter, if it names one, is set up

module _ (a : ArrivalRecord) (f : ℕ) (row : Filter) where
  abbrev Named : Rows → Type 0
  Named s = RedSetUp s × (eqb row.meter 255 ≡ false → stands 0 s (meter_row row.meter))

  named_away : (s : Rows) (r : ℕ) (vs : List ℕ) → ((i : ℕ) → meter_row i ≢ r) → ((i : ℕ) → meter_state_row i ≢ r) → Named s → Named (with_row s r vs)
  named_away s r vs n n' k = (apart s r vs n n' k.0, λ e. away 0 s (meter_row row.meter) r vs (n row.meter) (k.1 e))

  coloured_kept : (s : Rows) → eqb row.meter 255 ≡ false → Named s → RedSetUp (metered s a row.meter)
  coloured_kept s n k i h = away 0 s (meter_row i) (meter_state_row row.meter) _ (omega arith) (by_row (ℕ_discrete (meter_state_row i) (meter_state_row row.meter)))
    where
      by_row : Dec (meter_state_row i ≡ meter_state_row row.meter) → stands 0 s (meter_row i)
      by_row (yes e) = let same : meter_row i ≡ meter_row row.meter = omega (arith, e) in ap (λ (q : ℕ). is_set (word (s q) 0)) same ∙ k.1 n
      by_row (no m) = k.0 i (kept_row 3 (metered s a row.meter) s (meter_state_row i) (sym (row_other s (meter_state_row row.meter) _ (meter_state_row i) m)) h)

  named_frame : (lists : List ℕ) → Kept lists a f row Named
  named_frame lists = record {
    counts = λ s k. named_away s (counters_row f) _ (λ i. omega arith) (λ i. omega arith);
    marks = λ s flag own. named_away s (counters_row f) _ (λ i. omega arith) (λ i. omega arith);
    gates = λ s. named_away s (gate_state_row row.gate) _ (λ i. omega arith) (λ i. omega arith);
    meters = λ s n k. (coloured_kept s n k, λ e. away 0 s (meter_row row.meter) (meter_state_row row.meter) _ (omega arith) (k.1 e));
    schedulers = λ s j x. named_away s (scheduler_row j) _ (λ i. omega arith) (λ i. omega arith);
    groups = λ s j at. named_away s (group_row j) _ (λ i. omega arith) (λ i. omega arith);
    ports = λ s n. named_away s (port_row a.port) _ (λ i. omega arith) (λ i. omega arith);
  }

arrived_kept : (a : ArrivalRecord) (found : Found) (s : Rows) (lists : List ℕ) → RedSetUp s → ((f : ℕ) (row : Filter) → found ≡ Some (f, row) → eqb row.meter 255 ≡ false → meter_is_set s row.meter ≡ true)
    → RedSetUp (arrival_of s lists a found).bank
arrived_kept a found s lists k named =
    arrived_along s lists a found (λ t. RedSetUp t.bank)
    (record {
      back = λ e. k;
      unmatched = λ e p n. apart s component_row _ (λ i. omega arith) (λ i. omega arith) k;
      matched = λ e f row n. (frame_keeps lists a f row (Named a f row) (named_frame a f row lists) _ (named_away a f row s component_row _ (λ i. omega arith) (λ i. omega arith) (k, named f row n))).0;
    })

-- the row that a frame uses counts, so that its meter is set up
named_is_set : (s : Rows) (table : List Filter) (q : Question) → q.asks ≡ Fits → (f : ℕ) (row : Filter) → search_of s q table ≡ Some (f, row) → eqb row.meter 255 ≡ false → meter_is_set s row.meter ≡ true
named_is_set s table q asks f row e n =
    let counts : counts_of s row ≡ true = (both (fits_of q.key row) (counts_of s row) (sym (answers_asked s row q Fits asks) ∙ (search_finds s q table f row e).passes)).1 in
    counts_meter s row counts (eqb-false row.meter 255 n)

-- ---- a meter's record, and the other setup records

meter_kept : (s : Rows) (x : MeterRecord) → RedSetUp s → RedSetUp (set_meter_of s x).bank
unfolding set_meter_of
meter_kept s x k = refused_by (λ t. RedSetUp t.bank) (meter_is_set s x.id) SetUpAlready s _ k (λ i h. set_up (fresh_meter_of x.cir x.cbs x.eir x.ebs (is_set x.coupling) (is_set x.colour_aware) (is_set x.drop_on_yellow) (is_set x.red_block)) i (ℕ_discrete (meter_row i) (meter_row x.id)) h)
  where
    set_up : (m : Meter) (i : ℕ) → Dec (meter_row i ≡ meter_row x.id) → stands 3 (with_meter s x.id m) (meter_state_row i) → stands 0 (with_meter s x.id m) (meter_row i)
    set_up m i (yes e) h =
        away 0 (with_row s (meter_row x.id) (row_of_meter m)) (meter_row i) (meter_state_row x.id) (row_of_meter_state m) (omega arith)
        (ap (λ (q : ℕ). is_set (word (with_row s (meter_row x.id) (row_of_meter m) q) 0)) e ∙ ap (λ (row : List ℕ). is_set (word row 0)) (row_same s (meter_row x.id) (row_of_meter m)))
    set_up m i (no n) h =
        away 0 (with_row s (meter_row x.id) (row_of_meter m)) (meter_row i) (meter_state_row x.id) (row_of_meter_state m) (omega arith)
        (away 0 s (meter_row i) (meter_row x.id) (row_of_meter m) n
        (k i (kept_row 3 (with_meter s x.id m) s (meter_state_row i)
        (sym (row_other (with_row s (meter_row x.id) (row_of_meter m)) (meter_state_row x.id) (row_of_meter_state m) (meter_state_row i) (omega (arith, n)) ∙ row_other s (meter_row x.id) (row_of_meter m) (meter_state_row i) (omega arith))) h)))

module _ (b : Bridge) (c : Call) (k : RedSetUp b.bank) where
  setup_kept : (r : Record) (used : ℕ) → Setup r → RedSetUp (taken_of b c r used).after.bank
  setup_kept =
      setup_holds b c (λ x. RedSetUp x.bank)
      (record {
        now = k;
        ports = λ r. leaves (set_port_of b.bank r).bank (λ q l h. port_other b.bank q r (omega arith) (omega arith));
        filters = λ r. k;
        gates = λ r. leaves (set_gate_of b.bank r).bank (λ q l h. gate_other b.bank q r (omega arith));
        entries = λ r used. leaves (add_entry_of b.bank b.lists (body_in c used) r).bank (λ q l h. entry_row b.bank b.lists (body_in c used) r q (omega arith));
        meters = λ r. meter_kept b.bank r k;
        groups = λ r. leaves (set_group_of b.bank r).bank (λ q l h. group_other b.bank q r (omega arith));
        schedulers = λ r. leaves (set_scheduler_of b.bank r).bank (λ q l h. scheduler_other b.bank q r (omega arith));
        starts = λ r. leaves (start_of b.bank r (first_row b Missing no_key) (first_row b ExceedsBurst no_key)).bank (λ q l h. start_other b.bank q r _ _ (omega arith));
      })
    where
      -- a record that leaves the rows of meters
      leaves : (t : Rows) → ((q : ℕ) → meters_from ≤ q → q < groups_from → t q ≡ b.bank q) → RedSetUp t
      leaves t e = kept b.bank t (λ i. e (meter_row i) (omega arith) (omega arith)) (λ i. e (meter_state_row i) (omega arith) (omega arith)) k

-- ---- a clear

module _ (s : Rows) (k : RedSetUp s) where
  abbrev After : Told → Type 0
  After t = RedSetUp t.bank

  clear_1 : (i : ℕ) (row : Filter) → After (clear_oversize_of s i row)
  unfolding clear_oversize_of
  clear_1 i row = refused_by After (not (counts_of s row)) NotSetUp s _ k (apart s (counters_row i) _ (λ j. omega arith) (λ j. omega arith) k)

  clear_2 : (i : ℕ) → After (clear_invalid_receive_of s i)
  unfolding clear_invalid_receive_of
  clear_2 i = refused_by After (not (gate_is_set s i)) NotSetUp s _ k (apart s (gate_state_row i) _ (λ j. omega arith) (λ j. omega arith) k)

  clear_3 : (i : ℕ) → After (clear_octets_of s i)
  unfolding clear_octets_of
  clear_3 i = refused_by After (not (gate_is_set s i)) NotSetUp s _ k (apart s (gate_state_row i) _ (λ j. omega arith) (λ j. omega arith) k)

  lowered : (i j : ℕ) → Dec (meter_state_row j ≡ meter_state_row i) → stands 3 (with_meter_state s i (red_low (meter s i))) (meter_state_row j) → stands 0 (with_meter_state s i (red_low (meter s i))) (meter_row j)
  lowered i j (yes e) h =
      let vs : List ℕ = row_of_meter_state (red_low (meter s i)) in
      let down : false ≡ true = sym (ap (λ (q : ℕ). is_set (word (with_row s (meter_state_row i) vs q) 3)) e ∙ ap (λ (row : List ℕ). is_set (word row 3)) (row_same s (meter_state_row i) vs)) ∙ h in
      absurd (let z : ◌≡◌ {A = ℕ} 0 1 = cc in omega arith)
  lowered i j (no n) h =
      away 0 s (meter_row j) (meter_state_row i) _ (omega arith) (k j (kept_row 3 (with_meter_state s i (red_low (meter s i))) s (meter_state_row j) (sym (row_other s (meter_state_row i) _ (meter_state_row j) n)) h))

  clear_4 : (i : ℕ) → After (clear_red_of s i)
  unfolding clear_red_of
  clear_4 i = refused_by After (not (meter_is_set s i)) NotSetUp s _ k (λ j. lowered i j (ℕ_discrete (meter_state_row j) (meter_state_row i)))

  clear_kept : (r : ClearRecord) (row : Filter) → After (clear_of s r row)
  clear_kept r row = clear_by_lem After s r row (λ _. clear_1 r.id row) (λ _. clear_2 r.id) (λ _. clear_3 r.id) (λ _. clear_4 r.id) k

-- ---- a call, and every history

module _ (b : Bridge) (c : Call) (k : RedSetUp b.bank) where
  record_kept : (r : Record) (used : ℕ) → Sort r → RedSetUp (taken_of b c r used).after.bank
  unfolding taken_of
  record_kept r used (setup h) = setup_kept b c k r used h
  record_kept r used (arrival a) =
      arrived_kept a _ b.bank b.lists k (named_is_set b.bank b.table _ refl)
  record_kept r used (clear x) = clear_kept b.bank k x _

  called_kept : (o : Took) → Called b c o → RedSetUp o.after.bank
  called_kept o (unread why) = k
  called_kept o (read r used full e) = record_kept r used (sort_of r)

run_kept : (b : Bridge) (cs : List Call) → RedSetUp b.bank → RedSetUp (run_of b cs).bank
unfolding run_of
run_kept b [] k = k
run_kept b (c ∷ cs) k = run_kept (take_of b c).after cs (called_kept b c k (take_of b c) (called_way b c))

fresh_kept : RedSetUp fresh.bank
unfolding fresh
fresh_kept i h = absurd (let z : ◌≡◌ {A = ℕ} 0 1 = cc in omega arith)

pub red_of_set_up : (cs : List Call) (i : ℕ) → (meter (run_of fresh cs).bank i).red_flag ≡ true → meter_is_set (run_of fresh cs).bank i ≡ true
red_of_set_up cs = run_kept fresh cs fresh_kept
