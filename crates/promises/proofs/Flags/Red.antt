-- Flag 4, the red flag of a meter that is set up: no call lifts it but a taken clear of it. (Before a meter is set up no frame reaches it; its
-- record puts the flag down.)
use Rattle.std.specs.Prelude.{ℕ, ◌<◌, false, not, List, ◌≢◌, ◌≡◌}
use Rattle.std.proofs.Math.Bool.{true}
use Rattle.std.proofs.Common.{sym, ◌∙◌, arith}
use Rattle.std.proofs.Math.Path.{ap}
use Rattle.std.proofs.Math.Decide.{ℕ_discrete}
use Rattle.sizes.specs.Meaning.{filter_count, gate_count, meter_count}
use Rattle.meter.proofs.Laws.{colour_flag_stands}
use Rattle.record.specs.declared.Record.{Record}
use Rattle.record.specs.declared.ArrivalRecord.{ArrivalRecord}
use Rattle.record.specs.declared.ClearRecord.{ClearRecord}
use Rattle.record.specs.declared.MeterRecord.{MeterRecord}
use Rattle.record.specs.declared.Refusal.TheVariants.{NotSetUp, SetUpAlready}
use Rattle.record.proofs.Sorts.{Setup}
use Rattle.bank.specs.Meaning.{Rows, with_row, word, is_set, row_of_meter_state, counters_row, gate_state_row, meter_row, meter_state_row, gate_is_set, meter, meter_is_set, component_row, scheduler_row, group_row, port_row}
use Rattle.bank.proofs.Rows.{row_other}
use Rattle.filter.specs.declared.Filter.{Filter}
use Rattle.filter.specs.Meaning.{Found}
use Rattle.filter.specs.Meaning.{counts_of}
use Rattle.verdict.specs.Meaning.{Told}
use Rattle.setup.specs.Meaning.{set_meter_of, clear_oversize_of, clear_invalid_receive_of, clear_octets_of, clear_red_of, clear_of}
use Rattle.setup.proofs.Cases.{refused_by, if_refused, clear_by_lem}
use Rattle.setup.proofs.Laws.{meter_other}
use Rattle.path.specs.Meaning.{coloured_of, arrival_of}
use Rattle.stage.specs.Meaning.{Bridge, taken_of, take_of}
use Rattle.promises.specs.Meaning.{Call, event_of}
use Rattle.promises.proofs.Untouched.{setup_row}
use Rattle.promises.proofs.Ways.{metered, Kept, arrived_keeps}
use Rattle.promises.specs.Flags.Meaning.{clears}
use Rattle.promises.proofs.Flags.Standing.{stands, flag_written, kept_row, away, raised, Spares, other_id, one_call}

module _ (i : ℕ) where
  -- the meter is set up, and its flag stands
  abbrev pub Red : Rows → Type 0
  Red s = stands 0 s (meter_row i) × stands 3 s (meter_state_row i)

  red_kept : (s t : Rows) → t (meter_row i) ≡ s (meter_row i) → t (meter_state_row i) ≡ s (meter_state_row i) → Red s → Red t
  red_kept s t e e' h = (kept_row 0 s t (meter_row i) e h.0, kept_row 3 s t (meter_state_row i) e' h.1)

  red_away : (s : Rows) (r : ℕ) (vs : List ℕ) → meter_row i ≢ r → meter_state_row i ≢ r → Red s → Red (with_row s r vs)
  red_away s r vs n n' = red_kept s (with_row s r vs) (row_other s r vs (meter_row i) n) (row_other s r vs (meter_state_row i) n')

  -- ---- a frame

  red_coloured : (s : Rows) (a : ArrivalRecord) (j : ℕ) → Red s → Red (metered s a j)
  red_coloured s a j h = (
    away 0 s (meter_row i) (meter_state_row j) _ (omega arith) h.0,
    flag_written 3 s (meter_state_row i) (meter_state_row j) (row_of_meter_state (coloured_of s a j).meter) (λ k. raised (coloured_of s a j).meter.red_flag (colour_flag_stands (meter s j) a.time _ _ k)) h.1,
  )

  module _ (lists : List ℕ) (a : ArrivalRecord) (f : ℕ) (row : Filter) where
    red_frame : Kept lists a f row Red
    red_frame = record {
      counts = λ s k. red_away s (counters_row f) _ (omega arith) (omega arith);
      marks = λ s flag own. red_away s (counters_row f) _ (omega arith) (omega arith);
      gates = λ s. red_away s (gate_state_row row.gate) _ (omega arith) (omega arith);
      meters = λ s e. red_coloured s a row.meter;
      schedulers = λ s j x. red_away s (scheduler_row j) _ (omega arith) (omega arith);
      groups = λ s j at. red_away s (group_row j) _ (omega arith) (omega arith);
      ports = λ s n. red_away s (port_row a.port) _ (omega arith) (omega arith);
    }

  red_arrived : (s : Rows) (lists : List ℕ) → Red s → (a : ArrivalRecord) (found : Found) → Red (arrival_of s lists a found).bank
  red_arrived s lists h a found = arrived_keeps Red s lists a found h (red_away s component_row _ (omega arith) (omega arith) h) (red_frame lists a)

  -- ---- a meter's record: refused where this meter is named, since it is set up

  meter_taken : (s : Rows) → Red s → (x : MeterRecord) → Dec (meter_row i ≡ meter_row x.id) → ((set_meter_of s x).bank (meter_row i) ≡ s (meter_row i)) × ((set_meter_of s x).bank (meter_state_row i) ≡ s (meter_state_row i))
  unfolding set_meter_of
  meter_taken s h x (yes e) =
      let isIn : meter_is_set s x.id ≡ true = ap (λ (q : ℕ). is_set (word (s q) 0)) (sym e) ∙ h.0 in
      let same = if_refused (meter_is_set s x.id) SetUpAlready s _ isIn in
      (ap (λ (t : Told). t.bank (meter_row i)) same, ap (λ (t : Told). t.bank (meter_state_row i)) same)
  meter_taken s h x (no n) = (meter_other s (meter_row i) x n (omega arith), meter_other s (meter_state_row i) x (omega arith) (omega (arith, n)))

  red_setups : (b : Bridge) (c : Call) → Red b.bank → (r : Record) (used : ℕ) → Setup r → Red (taken_of b c r used).after.bank
  red_setups b c h r used k =
      red_kept b.bank (taken_of b c r used).after.bank
      (setup_row b c (meter_row i) (omega arith) (λ j. omega arith) (λ x. (meter_taken b.bank h x (ℕ_discrete (meter_row i) (meter_row x.id))).0) r used k)
      (setup_row b c (meter_state_row i) (omega arith) (λ j. omega arith) (λ x. (meter_taken b.bank h x (ℕ_discrete (meter_row i) (meter_row x.id))).1) r used k)
      h

  -- ---- a clear

  module _ (small : i < meter_count) (s : Rows) (h : Red s) where
    abbrev RedAfter : ClearRecord → Told → Type 0
    RedAfter r t = Spares 4 i r t.verdict → Red t.bank

    red_clear_1 : (r : ClearRecord) (row : Filter) → RedAfter r (clear_oversize_of s r.id row)
    unfolding clear_oversize_of
    red_clear_1 r row = refused_by (RedAfter r) (not (counts_of s row)) NotSetUp s _ (λ x. h) (λ x. red_away s (counters_row r.id) _ (omega arith) (omega arith) h)

    red_clear_2 : (r : ClearRecord) → RedAfter r (clear_invalid_receive_of s r.id)
    unfolding clear_invalid_receive_of
    red_clear_2 r = refused_by (RedAfter r) (not (gate_is_set s r.id)) NotSetUp s _ (λ x. h) (λ x. red_away s (gate_state_row r.id) _ (omega arith) (omega arith) h)

    red_clear_3 : (r : ClearRecord) → RedAfter r (clear_octets_of s r.id)
    unfolding clear_octets_of
    red_clear_3 r = refused_by (RedAfter r) (not (gate_is_set s r.id)) NotSetUp s _ (λ x. h) (λ x. red_away s (gate_state_row r.id) _ (omega arith) (omega arith) h)

    red_clear_4 : (r : ClearRecord) → r.id < meter_count → r.flag ≡ 4 → RedAfter r (clear_red_of s r.id)
    unfolding clear_red_of
    red_clear_4 r l e = refused_by (RedAfter r) (not (meter_is_set s r.id)) NotSetUp s _ (λ x. h) (λ x. red_away s (meter_state_row r.id) _ (omega arith) (let n = other_id 4 i r e x in omega arith) h)

    red_cleared : (r : ClearRecord) (row : Filter) → r.id < filter_count → (r.flag ≢ 1 → r.id < gate_count) → Spares 4 i r (clear_of s r row).verdict → Red (clear_of s r row).bank
    red_cleared r row l l' = clear_by_lem (RedAfter r) s r row (λ e. red_clear_1 r row) (λ e. red_clear_2 r) (λ e. red_clear_3 r) (λ e. red_clear_4 r (l' (λ q. omega (arith, e, q))) e) (λ x. h)

-- after every call but a taken clear of flag 4 and this id; and the meter stays set up
pub red_stands : (b : Bridge) (c : Call) (i : ℕ) → i < meter_count → meter_is_set b.bank i ≡ true → (meter b.bank i).red_flag ≡ true → clears 4 i (event_of b c) ≡ false
    → (meter_is_set (take_of b c).after.bank i ≡ true) × ((meter (take_of b c).after.bank i).red_flag ≡ true)
red_stands b c i small h h' = one_call b c (Red i) 4 i (h, h') (red_setups i b c (h, h')) (red_arrived i b.bank b.lists (h, h')) (red_cleared i small b.bank (h, h'))
