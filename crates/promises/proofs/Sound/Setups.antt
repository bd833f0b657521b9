-- A setup record, a start and a clear keep the numbers of the bank sound.
use Rattle.std.specs.Prelude.{ℕ, ◌%◌, ◌≤◌, ◌<◌, max, Bool, not, cond, ◌&&◌, ◌||◌, List, ◌≢◌, ◌≡◌}
use Rattle.std.proofs.Math.Bool.{true, false}
use Rattle.std.proofs.Math.Path.{refl, ap}
use Rattle.std.proofs.Common.{sym, ◌∙◌}
use native.Mathlib.Omega.{arith}
use Rattle.std.proofs.lemmas.Bool.{not-false}
use Rattle.sizes.specs.Meaning.{gate_count, group_count, scheduler_count}
use Rattle.logic.specs.Laws.{neither_right}
use Rattle.meter.specs.Meaning.{fresh_meter_of}
use Rattle.meter.proofs.Laws.{fresh_sound}
use Rattle.record.specs.declared.Record.{Record}
use Rattle.record.specs.declared.PortRecord.{PortRecord}
use Rattle.record.specs.declared.MeterRecord.{MeterRecord}
use Rattle.record.specs.declared.GroupRecord.{GroupRecord}
use Rattle.record.specs.declared.SchedulerRecord.{SchedulerRecord}
use Rattle.record.specs.declared.StartRecord.{StartRecord}
use Rattle.record.specs.declared.ClearRecord.{ClearRecord}
use Rattle.record.specs.declared.Refusal.{Refusal}
use Rattle.record.specs.declared.Refusal.TheVariants.{SetUpAlready, Missing, BurstTooSmall, NotSetUp}
use Rattle.record.proofs.Sorts.{Setup, never_setup}
use Rattle.record.proofs.Ranges.{Ranged}
use Rattle.bank.specs.Meaning.{Rows, with_row, gates_from, meters_from, counters_from, component_row, counters_row, gate_state_row, group_row, scheduler_row, word, is_set, row_with, component, port, with_classes, gate_is_set, meter, meter_is_set, group, scheduler_is_set, scheduler_group}
use Rattle.bank.proofs.Rows.{row_other}
use Rattle.bank.proofs.Laws.{overhead_same, meter_with}
use Rattle.filter.specs.declared.Filter.{Filter}
use Rattle.filter.specs.Meaning.{Found, no_key}
use Rattle.filter.specs.Meaning as asks
use Rattle.filter.specs.Meaning.{is_filter_of, row_of, counts_of, is_found}
use Rattle.verdict.specs.Meaning.{Told}
use Rattle.setup.specs.Meaning.{refused_if, with_largest, set_port_of, set_meter_of, set_group_of, fresh_scheduler_of, set_scheduler_of, some_of, groupless_of, stray_of, incomplete_of, start_of, red_low, clear_oversize_of, clear_invalid_receive_of, clear_octets_of, clear_red_of, clear_of}
use Rattle.setup.proofs.Cases.{none_of, refused_by, clear_by_lem}
use Rattle.setup.proofs.Laws.{gate_other}
use Rattle.stage.specs.Meaning.{Bridge, Took, first_row, refused_of, started_of, taken_of}
use Rattle.promises.specs.Meaning.{Call}
use Rattle.promises.proofs.Untouched.{entry_row}
use Rattle.promises.proofs.Sound.Bounds.{MeterFilled, Sound, rows_complete}
use Rattle.promises.proofs.Sound.Stores.{aside_sound, component_sound, meter_state_sound, meter_sound, port_sound, group_sound, scheduler_sound}
use Rattle.record.specs.declared.Record.TheVariants as kind

-- ---- a start finds every scheduler's group

both_fail : (x y : Bool) → (x && not y) ≡ false → x ≡ true → y ≡ true
both_fail true y e h = not-false y e
both_fail false y e h = cc

abbrev AfterTold : Told → Type 0
AfterTold t = Sound t.bank

module _ (s : Rows) (k : Sound s) where
  grouped : some_of (groupless_of s) scheduler_count ≡ false → (i : ℕ) → scheduler_is_set s i ≡ true → (group s (scheduler_group s i)).set ≡ true
  grouped none i h =
      let e : scheduler_row (i % scheduler_count) ≡ scheduler_row i = omega arith in
      both_fail (scheduler_is_set s i) (group s (scheduler_group s i)).set
      (ap (λ (q : ℕ). is_set (word (s q) 0) && not (group s (word (s q) 1 % group_count)).set) (sym e) ∙ none_of (groupless_of s) scheduler_count none (i % scheduler_count) (omega arith)) h

  -- where the first test fails, what follows is to be shown
  unless_refused : (t : Bool) (why : Refusal) (x : Told) → (t ≡ false → AfterTold x) → AfterTold (refused_if t why s x)
  unfolding refused_if
  unless_refused true why x h = k
  unless_refused false why x h = h refl

  started_sound : (n : ℕ) → n ≤ 8 → ((i : ℕ) → scheduler_is_set s i ≡ true → (group s (scheduler_group s i)).set ≡ true) → Sound (with_classes s n)
  started_sound n few whole =
      let same = row_other s component_row (row_with (s component_row) 0 n) in
      component_sound s k _ few (omega arith) k.clock (omega arith)
      (λ begun i. rw (same (scheduler_row i) (omega arith), same (group_row (word (s (scheduler_row i)) 1 % group_count)) (omega arith)) (whole i))

  pub start_sound : (r : StartRecord) → r.classes ≤ 8 → (missing exceeding : Found) → AfterTold (start_of s r missing exceeding)
  unfolding start_of
  start_sound r few missing exceeding =
      unless_refused (incomplete_of s missing) Missing _
      (λ e. unless_refused (is_found exceeding) BurstTooSmall _ (λ e'. started_sound r.classes few (grouped (neither_right (is_found missing || some_of (stray_of s) gate_count) (some_of (groupless_of s) scheduler_count) e))))

  -- ---- the other records of setup

  largest_sound : (n : ℕ) → Sound (with_largest s n)
  largest_sound n =
      let same = row_other s component_row (row_with (s component_row) 2 (max (component s).overhead n)) in
      component_sound s k _ k.classes (omega arith) k.clock (omega arith)
      (rows_complete s (with_largest s n) k (ap (λ x. x.classes) (overhead_same s (max (component s).overhead n))) (λ i. same (group_row i) (omega arith)) (λ i. same (scheduler_row i) (omega arith)))

  pub port_record_sound : (r : PortRecord) → AfterTold (set_port_of s r)
  unfolding set_port_of
  port_record_sound r =
      refused_by AfterTold (port s r.port).set SetUpAlready s _ k
      (port_sound (with_largest s r.overhead) (largest_sound r.overhead) r.port (record { set = true; overhead = r.overhead; discarded = (port s r.port).discarded }) (omega (arith, ap (λ x. x.overhead) (overhead_same s (max (component s).overhead r.overhead)))))

  pub meter_record_sound : (r : MeterRecord) (used : ℕ) → Ranged (kind.Meter r) used → AfterTold (set_meter_of s r)
  unfolding set_meter_of
  meter_record_sound r used h =
      let x = fresh_meter_of r.cir r.cbs r.eir r.ebs (is_set r.coupling) (is_set r.colour_aware) (is_set r.drop_on_yellow) (is_set r.red_block) in
      refused_by AfterTold (meter_is_set s r.id) SetUpAlready s _ k
      (meter_sound s k r.id x (record { sound = fresh_sound r.cir r.cbs r.eir r.ebs _ _ _ _ h.2 h.3 h.4 h.5; last_high = omega arith }))

  module _ (before : started_of s ≡ false) where
    pub group_record_sound : (r : GroupRecord) (used : ℕ) → Ranged (kind.Group r) used → AfterTold (set_group_of s r)
    unfolding set_group_of
    group_record_sound r used h =
        refused_by AfterTold (group s r.id).set SetUpAlready s _ k (group_sound s k before r.id (record { set = true; residence = r.residence; last = 0 }) (record { residence_low = λ e. h.2; residence_high = h.3; last_high = omega arith }))

    pub scheduler_record_sound : (r : SchedulerRecord) (used : ℕ) → Ranged (kind.Scheduler r) used → AfterTold (set_scheduler_of s r)
    unfolding set_scheduler_of
    scheduler_record_sound r used h =
        refused_by AfterTold (scheduler_is_set s r.id) SetUpAlready s _ k
        (scheduler_sound s k before r.id r.group (fresh_scheduler_of r.cir r.cbs) (record { rate_low = λ e. h.3; rate_high = h.4; burst_low = λ e. h.5; burst_high = h.6; level_high = omega (arith, h.6); last_high = omega arith }))

  -- ---- a clear

  beside : (r : ℕ) (vs : List ℕ) → ((q : ℕ) → (gates_from ≤ q → meters_from ≤ q) → q < counters_from → q ≢ r) → Sound (with_row s r vs)
  beside r vs n = aside_sound s k (with_row s r vs) (λ q l m. row_other s r vs q (n q l m))

  clear_1 : (i : ℕ) (row : Filter) → AfterTold (clear_oversize_of s i row)
  unfolding clear_oversize_of
  clear_1 i row = refused_by AfterTold (not (counts_of s row)) NotSetUp s _ k (beside (counters_row i) _ (λ q l m e. omega (arith, m, e)))

  clear_2 : (i : ℕ) → AfterTold (clear_invalid_receive_of s i)
  unfolding clear_invalid_receive_of
  clear_2 i = refused_by AfterTold (not (gate_is_set s i)) NotSetUp s _ k (beside (gate_state_row i) _ (λ q l m e. omega (arith, e, l (omega (arith, e)))))

  clear_3 : (i : ℕ) → AfterTold (clear_octets_of s i)
  unfolding clear_octets_of
  clear_3 i = refused_by AfterTold (not (gate_is_set s i)) NotSetUp s _ k (beside (gate_state_row i) _ (λ q l m e. omega (arith, e, l (omega (arith, e)))))

  lowered : (i : ℕ) → MeterFilled (component s).clock (meter_with (meter s i) (red_low (meter s i)))
  lowered i =
      let m = (k.meters i).sound in
      record {
        sound = record { cbs_high = m.cbs_high; ebs_high = m.ebs_high; committed_high = m.committed_high; excess_high = m.excess_high; cir_high = m.cir_high; eir_high = m.eir_high; last_high = m.last_high };
        last_high = (k.meters i).last_high;
      }

  clear_4 : (i : ℕ) → AfterTold (clear_red_of s i)
  unfolding clear_red_of
  clear_4 i = refused_by AfterTold (not (meter_is_set s i)) NotSetUp s _ k (meter_state_sound s k i (red_low (meter s i)) (lowered i))

  pub clear_sound : (r : ClearRecord) (row : Filter) → AfterTold (clear_of s r row)
  clear_sound r row = clear_by_lem AfterTold s r row (λ _. clear_1 r.id row) (λ _. clear_2 r.id) (λ _. clear_3 r.id) (λ _. clear_4 r.id) k

-- ---- by record

module _ (b : Bridge) (c : Call) (k : Sound b.bank) (before : started_of b.bank ≡ false) where
  placed : (t : Bool) (o : Took) → Sound o.after.bank → Sound (cond t (refused_of b SetUpAlready) o).after.bank
  placed true o h = k
  placed false o h = h

  pub setup_sound : (r : Record) (used : ℕ) → Setup r → Ranged r used → Sound (taken_of b c r used).after.bank
  unfolding taken_of
  setup_sound (kind.Port r) used h ranged = port_record_sound b.bank k r
  setup_sound (kind.Filter r) used h ranged = placed (is_filter_of (row_of b.table r.id)) _ k
  setup_sound (kind.Gate r) used h ranged = aside_sound b.bank k _ (λ q l m. gate_other b.bank q r (λ e. omega (arith, e, l (omega (arith, e)))))
  setup_sound (kind.GateEntry r) used h ranged = aside_sound b.bank k _ (λ q l m. entry_row b.bank b.lists _ r q (λ e. omega (arith, e, l (omega (arith, e)))))
  setup_sound (kind.Meter r) used h ranged = meter_record_sound b.bank k r used ranged
  setup_sound (kind.Group r) used h ranged = group_record_sound b.bank k before r used ranged
  setup_sound (kind.Scheduler r) used h ranged = scheduler_record_sound b.bank k before r used ranged
  setup_sound (kind.Start r) used h ranged = start_sound b.bank k r ranged.2 (first_row b asks.Missing no_key) (first_row b asks.ExceedsBurst no_key)
  setup_sound (kind.Arrival a) used h ranged = never_setup h
  setup_sound (kind.Clear r) used h ranged = never_setup h
