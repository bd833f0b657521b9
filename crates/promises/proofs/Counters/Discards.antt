-- One call and DiscardedFrames of one port: it moves by its own predicate, and no other way.
use Rattle.std.specs.Prelude.{ℕ, ◌<◌, Bool, true, false, ◌&&◌, ◌||◌, ◌≡◌, eqb, ◌≢◌, Ok}
use mathlib.Core.List.{List}
use Rattle.std.proofs.Math.Path.{refl, ap}
use Rattle.std.proofs.Common.{sym, ◌∙◌, arith, eq-eqb, ne_eqb}
use Rattle.std.proofs.Math.Decide.{ℕ_discrete}
use Rattle.sizes.specs.Meaning.{port_count}
use Rattle.record.specs.declared.Record.{Record}
use Rattle.record.specs.declared.ArrivalRecord.{ArrivalRecord}
use Rattle.record.specs.declared.Refusal.{Refusal}
use Rattle.record.specs.declared.Refusal.TheVariants.{SetUpAlready, TimeGoesBack}
use Rattle.record.specs.Meaning.{Reading}
use Rattle.bank.specs.Meaning.{Rows, word, component_row, port_row, group_row, scheduler_row, row_of_port, port, gate_state_row, meter_state_row, one_more, with_row, counters_row, counters, with_scheduler_state, with_group_last}
use Rattle.bank.proofs.Rows.{row_same, row_other, row_kept}
use Rattle.record.specs.declared.PortRecord.{PortRecord}
use Rattle.record.proofs.Sorts.{Setup, Sort, setup, arrival, clear, sort_of, setup_arrival}
use Rattle.record.proofs.Ranges.{read_ranges}
use Rattle.filter.specs.declared.Filter.{Filter}
use Rattle.filter.specs.Meaning.{Found, no_key}
use Rattle.filter.specs.Meaning.{Fits, Missing, ExceedsBurst}
use Rattle.filter.specs.Meaning.{row_of}
use Rattle.verdict.specs.Meaning.{Verdict}
use Rattle.verdict.specs.Meaning.{Refused, Dropped, Passed}
use Rattle.verdict.specs.Meaning.{Told, told}
use Rattle.setup.specs.Meaning.{set_port_of, clear_of, with_largest}
use Rattle.setup.proofs.Cases.{refused_by}
use Rattle.setup.proofs.Laws.{gate_other, meter_other, group_other, scheduler_other, start_other, clear_other}
use Rattle.path.specs.Meaning.{sdu_passed, gate_passed, gate_failed, discard_counted, arrival_of, sdu_filtered_of, sdu_failed, red_counted}
use Rattle.stage.specs.Meaning.{Bridge, Took, answered, key_of, first_row, taken_of, started_of, take_of}
use Rattle.promises.specs.Meaning.{Call, reading_of, event_of}
use Rattle.promises.proofs.Refusals.Keeps.{answered_verdict}
use Rattle.promises.proofs.Untouched.{setup_holds, entry_row}
use Rattle.promises.proofs.Ways.{ticked, ByGate, blocked, closed, exceeded, ByMeter, yellow, red, frame_along, arrived_along, Called, unread, read, called_way}
use Rattle.promises.specs.Counters.Meaning.{frame_in, drop_in, arrival_port, port_by, discarded_in}
use Rattle.promises.proofs.Counters.Tally.{counted}
use Rattle.verdict.specs.declared.Drop.{Drop}
use Rattle.record.specs.declared.Record.TheVariants as kind
use Rattle.verdict.specs.declared.Drop.TheVariants as drop

-- the word that counts them
abbrev discards : Rows → ℕ → ℕ
discards s p = (port s p).discarded

discards_kept : (s t : Rows) (p : ℕ) → t (port_row p) ≡ s (port_row p) → discards t p ≡ discards s p
discards_kept s t p e = ap (λ (row : List ℕ). word row 2) e

-- only drop 8 counts
no_discard : (m : Bool) (v : Verdict) → (frame_in v && eqb (drop_in v) 8) ≡ false → discarded_in m v ≡ false
no_discard true v e = e
no_discard false v e = refl

-- ---- an arrival

module _ (a : ArrivalRecord) (p : ℕ) (small : p < port_count) (own : a.port < port_count) (n : ℕ) where
  abbrev Discards : Told → Type 0
  Discards t = discards t.bank p ≡ counted (discarded_in (eqb a.port p) t.verdict) n

  none_discarded : (s : Rows) (v : Verdict) → (frame_in v && eqb (drop_in v) 8) ≡ false → discards s p ≡ n → Discards (told s v)
  none_discarded s v e h = h ∙ ap (λ (u : Bool). counted u n) (sym (no_discard (eqb a.port p) v e))

  one_discarded : (s : Rows) → discards s p ≡ n → Dec (a.port ≡ p) → Discards (told (discard_counted s a.port) (Dropped drop.Residence))
  unfolding discard_counted
  one_discarded s h (yes e) =
      ap (λ (row : List ℕ). word row 2) (ap (λ (k : ℕ). discard_counted s a.port (port_row k)) (sym e) ∙ row_same s (port_row a.port) _)
      ∙ ap one_more (ap (discards s) e ∙ h)
      ∙ ap (λ (u : Bool). counted (discarded_in u (Dropped drop.Residence)) n) (sym (eq-eqb a.port p e))
  one_discarded s h (no q) =
      discards_kept s (discard_counted s a.port) p (row_other s (port_row a.port) _ (port_row p) (omega (arith, q))) ∙ h ∙ ap (λ (u : Bool). counted (discarded_in u (Dropped drop.Residence)) n) (sym (ne_eqb a.port p q))

  abbrev Counts : Rows → Type 0
  Counts s = discards s p ≡ n

  beside : (s : Rows) (r : ℕ) (vs : List ℕ) → port_row p ≢ r → Counts s → Counts (with_row s r vs)
  beside s r vs m h = discards_kept s (with_row s r vs) p (row_other s r vs (port_row p) m) ∙ h

  shut_discards : (s : Rows) (d : Drop) → ByGate d → Counts s → Discards (told s (Dropped d))
  shut_discards s d blocked = none_discarded s (Dropped d) refl
  shut_discards s d closed = none_discarded s (Dropped d) refl
  shut_discards s d exceeded = none_discarded s (Dropped d) refl

  red_discards : (s : Rows) (d : Drop) → ByMeter d → Counts s → Discards (told s (Dropped d))
  red_discards s d yellow = none_discarded s (Dropped d) refl
  red_discards s d red = none_discarded s (Dropped d) refl

  module _ (f : ℕ) where
    failed_counts : (s : Rows) (flag : Bool) → Counts s → Counts (sdu_failed s f flag)
    unfolding sdu_failed
    failed_counts s flag h = beside _ (counters_row f) _ (omega arith) (beside _ (counters_row f) _ (omega arith) (beside s (counters_row f) _ (omega arith) h))

    passed_counts : (s : Rows) → Counts s → Counts (sdu_passed s f)
    unfolding sdu_passed
    passed_counts s h = beside _ (counters_row f) _ (omega arith) (beside s (counters_row f) _ (omega arith) h)

    opened_counts : (s : Rows) → Counts s → Counts (gate_passed s f)
    unfolding gate_passed
    opened_counts s = beside s (counters_row f) _ (omega arith)

    shut_counts : (s : Rows) → Counts s → Counts (gate_failed s f)
    unfolding gate_failed
    shut_counts s = beside s (counters_row f) _ (omega arith)

    red_counts : (s : Rows) → Counts s → Counts (red_counted s f)
    unfolding red_counted
    red_counts s = beside s (counters_row f) _ (omega arith)

  frame_discards : (lists : List ℕ) (f : ℕ) (row : Filter) (s : Rows) → Counts s → Discards (sdu_filtered_of s lists a f row)
  frame_discards lists f row =
      frame_along lists a f row Counts Counts Counts Discards
      (record {
        stopped = λ s h. let flag = (counters s f).oversize in none_discarded (sdu_failed s f flag) (Dropped drop.OversizeBlocked) refl (failed_counts f s flag h);
        oversize = λ s set h. let flag = (counters s f).oversize || set in none_discarded (sdu_failed s f flag) (Dropped drop.Oversize) refl (failed_counts f s flag h);
        fits = passed_counts f;
        gates = λ s. beside s (gate_state_row row.gate) _ (omega arith);
        shut = λ s d k h. shut_discards (gate_failed s f) d k (shut_counts f s h);
        opens = opened_counts f;
        meters = λ s e. beside s (meter_state_row row.meter) _ (omega arith);
        exceeds = λ s d k h. red_discards (red_counted s f) d k (red_counts f s h);
        passes = λ s x h. none_discarded s (Passed x) refl h;
        admits = λ s i j at y x h. let t = with_scheduler_state s i y in none_discarded (with_group_last t j at) (Passed x) refl (beside t (group_row j) _ (omega arith) (beside s (scheduler_row i) _ (omega arith) h));
        late = λ s h. one_discarded s h (ℕ_discrete a.port p);
      })

  arrived_discards : (s : Rows) (lists : List ℕ) (found : Found) → Counts s → Discards (arrival_of s lists a found)
  arrived_discards s lists found h =
      let clocked = beside s component_row _ (omega arith) h in
      arrived_along s lists a found Discards
      (record { back = λ e. none_discarded s (Refused TimeGoesBack) refl h; unmatched = λ e x m. none_discarded (ticked s a) (Passed x) refl clocked; matched = λ e f row m. frame_discards lists f row (ticked s a) clocked })

-- ---- a port's record keeps the count, and no other record writes it

port_record : (s : Rows) (r : PortRecord) (p : ℕ) → discards (set_port_of s r).bank p ≡ discards s p
unfolding set_port_of
port_record s r p =
    refused_by (λ t. discards t.bank p ≡ discards s p) (port s r.port).set SetUpAlready s _ refl
    (row_kept (λ (row : List ℕ). word row 2) (with_largest s r.overhead) (port_row r.port) (row_of_port (record { set = true; overhead = r.overhead; discarded = discards s r.port })) (sym (component_apart r.port)) (port_row p)
    ∙ component_apart p)
  where
    component_apart : (i : ℕ) → discards (with_largest s r.overhead) i ≡ discards s i
    component_apart i = discards_kept s (with_largest s r.overhead) i (row_other s component_row _ (port_row i) (omega arith))

module _ (b : Bridge) (c : Call) (p : ℕ) where
  setup_discards : (r : Record) (used : ℕ) → Setup r → discards (taken_of b c r used).after.bank p ≡ discards b.bank p
  setup_discards =
      setup_holds b c (λ x. discards x.bank p ≡ discards b.bank p)
      (record {
        now = refl;
        ports = λ r. port_record b.bank r p;
        filters = λ r. refl;
        gates = λ r. ap (λ (row : List ℕ). word row 2) (gate_other b.bank (port_row p) r (omega arith));
        entries = λ r used. ap (λ (row : List ℕ). word row 2) (entry_row b.bank b.lists _ r (port_row p) (omega arith));
        meters = λ r. ap (λ (row : List ℕ). word row 2) (meter_other b.bank (port_row p) r (omega arith) (omega arith));
        groups = λ r. ap (λ (row : List ℕ). word row 2) (group_other b.bank (port_row p) r (omega arith));
        schedulers = λ r. ap (λ (row : List ℕ). word row 2) (scheduler_other b.bank (port_row p) r (omega arith));
        starts = λ r. ap (λ (row : List ℕ). word row 2) (start_other b.bank (port_row p) r (first_row b Missing no_key) (first_row b ExceedsBurst no_key) (omega arith));
      })

-- ---- one call

unmoved : (m : Bool) (v : Verdict) (n n' : ℕ) → m ≡ false → n' ≡ n → n' ≡ counted (discarded_in m v) n
unmoved m v n n' e h = h ∙ ap (λ (u : Bool). counted (discarded_in u v) n) (sym e)

refused_none : (m : Bool) (why : Refusal) → discarded_in m (Refused why) ≡ false
refused_none m why = no_discard m (Refused why) refl

module _ (b : Bridge) (c : Call) (p : ℕ) (small : p < port_count) where
  record_discards : (r : Record) (used : ℕ) → reading_of b c ≡ Ok (r, used) → Sort r
      → discards (taken_of b c r used).after.bank p ≡ counted (discarded_in (eqb (arrival_port r) p) (taken_of b c r used).answer.verdict) (discards b.bank p)
  unfolding taken_of
  record_discards r used e (setup h) =
      unmoved (eqb (arrival_port r) p) (taken_of b c r used).answer.verdict _ _ (ne_eqb (arrival_port r) p (λ (q : arrival_port r ≡ p). omega (arith, setup_arrival (λ a. a.port) port_count r h, q))) (setup_discards b c p r used h)
  record_discards r used e (arrival a) =
      let found = first_row b Fits (key_of a) in
      let t = arrival_of b.bank b.lists a found in
      let own = (read_ranges c (started_of b.bank) (kind.Arrival a) used e).1 in
      arrived_discards a p small (omega (arith, own)) (discards b.bank p) b.bank b.lists found refl
      ∙ ap (λ (v : Verdict). counted (discarded_in (eqb a.port p) v) (discards b.bank p)) (sym (answered_verdict used t.verdict))
  record_discards r used e (clear x) =
      let t = clear_of b.bank x (row_of b.table x.id) in
      unmoved (eqb port_count p) (answered used t.verdict).verdict _ _ (ne_eqb port_count p (omega arith)) (ap (λ (row : List ℕ). word row 2) (clear_other b.bank (port_row p) x (row_of b.table x.id) (omega arith) (omega arith) (omega arith)))

  called_discards : (o : Took) → Called b c o → discards o.after.bank p ≡ counted (discarded_in (eqb (port_by (reading_of b c)) p) o.answer.verdict) (discards b.bank p)
  called_discards o (unread why) = ap (λ (u : Bool). counted u (discards b.bank p)) (sym (refused_none (eqb (port_by (reading_of b c)) p) why))
  called_discards o (read r used full e) =
      record_discards r used e (sort_of r) ∙ ap (λ (rd : Reading). counted (discarded_in (eqb (port_by rd) p) (taken_of b c r used).answer.verdict) (discards b.bank p)) (sym e)

  -- DiscardedFrames of port p after the call is that before it, moved by its predicate on what the call did
  pub call_discards : (port (take_of b c).after.bank p).discarded ≡ counted (discarded_in (eqb (port_by (event_of b c).reading) p) (event_of b c).verdict) (port b.bank p).discarded
  call_discards = called_discards (take_of b c) (called_way b c)
