-- Flags 2 and 3, a gate's invalid-receive and octets flags: no call lifts one but a taken clear of it.
use Rattle.std.specs.Prelude.{ℕ, ◌<◌, true, not, List, ◌≢◌, ◌≡◌}
use Rattle.std.proofs.Math.Bool.{false}
use Rattle.std.proofs.Common.{◌∙◌, arith}
use Rattle.sizes.specs.Meaning.{filter_count, gate_count}
use Rattle.logic.specs.Laws.{or_left}
use Rattle.gate.proofs.Flags.{step_invalid_receive, step_octets}
use Rattle.record.specs.declared.Record.{Record}
use Rattle.record.specs.declared.ArrivalRecord.{ArrivalRecord}
use Rattle.record.specs.declared.ClearRecord.{ClearRecord}
use Rattle.record.specs.declared.Refusal.TheVariants.{NotSetUp}
use Rattle.record.proofs.Sorts.{Setup}
use Rattle.bank.specs.Meaning.{Rows, word, is_set, row_of_gate_state, counters_row, gate_state_row, meter_state_row, gate, gate_is_set, meter_is_set, component_row, scheduler_row, group_row, port_row}
use Rattle.filter.specs.declared.Filter.{Filter}
use Rattle.filter.specs.Meaning.{Found}
use Rattle.filter.specs.Meaning.{counts_of}
use Rattle.verdict.specs.Meaning.{Told}
use Rattle.setup.specs.Meaning.{with_flags, clear_oversize_of, clear_invalid_receive_of, clear_octets_of, clear_red_of, clear_of}
use Rattle.setup.proofs.Cases.{refused_by, clear_by_lem}
use Rattle.setup.proofs.Laws.{meter_other}
use Rattle.path.specs.Meaning.{reached_of, arrival_of}
use Rattle.stage.specs.Meaning.{Bridge, taken_of, take_of}
use Rattle.promises.specs.Meaning.{Call, event_of}
use Rattle.promises.proofs.Untouched.{setup_row}
use Rattle.promises.proofs.Ways.{Kept, arrived_keeps}
use Rattle.promises.specs.Flags.Meaning.{clears}
use Rattle.promises.proofs.Flags.Standing.{stands, flag_written, kept_row, away, raised, Spares, other_id, one_call}

-- ---- a frame, for either flag: word k of the gate's state

module _ (k i : ℕ) (reaches : (s : Rows) (lists : List ℕ) (a : ArrivalRecord) (j : ℕ) → stands k s (gate_state_row j) → is_set (word (row_of_gate_state (reached_of s lists a j).gate) k) ≡ true) where
  abbrev Standing : Rows → Type 0
  Standing s = stands k s (gate_state_row i)

  module _ (lists : List ℕ) (a : ArrivalRecord) (f : ℕ) (row : Filter) where
    gate_kept : Kept lists a f row Standing
    gate_kept = record {
      counts = λ s c. away k s (gate_state_row i) (counters_row f) _ (omega arith);
      marks = λ s flag own. away k s (gate_state_row i) (counters_row f) _ (omega arith);
      gates = λ s. flag_written k s (gate_state_row i) (gate_state_row row.gate) (row_of_gate_state (reached_of s lists a row.gate).gate) (reaches s lists a row.gate);
      meters = λ s e. away k s (gate_state_row i) (meter_state_row row.meter) _ (omega arith);
      schedulers = λ s j x. away k s (gate_state_row i) (scheduler_row j) _ (omega arith);
      groups = λ s j at. away k s (gate_state_row i) (group_row j) _ (omega arith);
      ports = λ s n. away k s (gate_state_row i) (port_row a.port) _ (omega arith);
    }

  gate_arrived : (s : Rows) (lists : List ℕ) → Standing s → (a : ArrivalRecord) (found : Found) → Standing (arrival_of s lists a found).bank
  gate_arrived s lists h a found = arrived_keeps Standing s lists a found h (away k s (gate_state_row i) component_row _ (omega arith) h) (gate_kept lists a)

  gate_setups : (b : Bridge) (c : Call) → Standing b.bank → (r : Record) (used : ℕ) → Setup r → Standing (taken_of b c r used).after.bank
  gate_setups b c h r used x =
      kept_row k b.bank (taken_of b c r used).after.bank (gate_state_row i)
      (setup_row b c (gate_state_row i) (omega arith) (λ j. omega arith) (λ y. meter_other b.bank (gate_state_row i) y (omega arith) (omega arith)) r used x) h

reaches_invalid_receive : (s : Rows) (lists : List ℕ) (a : ArrivalRecord) (j : ℕ) → stands 0 s (gate_state_row j) → is_set (word (row_of_gate_state (reached_of s lists a j).gate) 0) ≡ true
reaches_invalid_receive s lists a j h = raised _ (step_invalid_receive (gate s j) _ a.time a.msdu ∙ or_left _ _ h)

reaches_octets : (s : Rows) (lists : List ℕ) (a : ArrivalRecord) (j : ℕ) → stands 1 s (gate_state_row j) → is_set (word (row_of_gate_state (reached_of s lists a j).gate) 1) ≡ true
reaches_octets s lists a j h = raised _ (step_octets (gate s j) _ a.time a.msdu ∙ or_left _ _ h)

-- ---- a clear. Clears 1 and 4 write other rows

module _ (k flag i : ℕ) (s : Rows) (h : stands k s (gate_state_row i)) where
  abbrev After : ClearRecord → Told → Type 0
  After r t = Spares flag i r t.verdict → stands k t.bank (gate_state_row i)

  clear_1 : (r : ClearRecord) (row : Filter) → After r (clear_oversize_of s r.id row)
  unfolding clear_oversize_of
  clear_1 r row = refused_by (After r) (not (counts_of s row)) NotSetUp s _ (λ x. h) (λ x. away k s (gate_state_row i) (counters_row r.id) _ (omega arith) h)

  clear_4 : (r : ClearRecord) → After r (clear_red_of s r.id)
  unfolding clear_red_of
  clear_4 r = refused_by (After r) (not (meter_is_set s r.id)) NotSetUp s _ (λ x. h) (λ x. away k s (gate_state_row i) (meter_state_row r.id) _ (omega arith) h)

-- and of 2 and 3 each writes the other flag as it was
module _ (i : ℕ) (small : i < gate_count) (s : Rows) where
  module _ (h : stands 0 s (gate_state_row i)) where
    invalid_receive_clear_2 : (r : ClearRecord) → r.id < gate_count → r.flag ≡ 2 → After 0 2 i s h r (clear_invalid_receive_of s r.id)
    unfolding clear_invalid_receive_of
    invalid_receive_clear_2 r l e =
        refused_by (After 0 2 i s h r) (not (gate_is_set s r.id)) NotSetUp s _ (λ x. h) (λ x. away 0 s (gate_state_row i) (gate_state_row r.id) _ (let n = other_id 2 i r e x in omega arith) h)

    invalid_receive_clear_3 : (r : ClearRecord) → After 0 2 i s h r (clear_octets_of s r.id)
    unfolding clear_octets_of
    invalid_receive_clear_3 r =
        refused_by (After 0 2 i s h r) (not (gate_is_set s r.id)) NotSetUp s _ (λ x. h)
        (λ x. flag_written 0 s (gate_state_row i) (gate_state_row r.id) (row_of_gate_state (with_flags (gate s r.id) (gate s r.id).invalid_receive_flag false)) (raised (gate s r.id).invalid_receive_flag) h)

    invalid_receive_cleared : (r : ClearRecord) (row : Filter) → r.id < filter_count → (r.flag ≢ 1 → r.id < gate_count) → Spares 2 i r (clear_of s r row).verdict → stands 0 (clear_of s r row).bank (gate_state_row i)
    invalid_receive_cleared r row l l' =
        clear_by_lem (After 0 2 i s h r) s r row (λ e. clear_1 0 2 i s h r row) (λ e. invalid_receive_clear_2 r (l' (λ q. omega (arith, e, q))) e) (λ e. invalid_receive_clear_3 r) (λ e. clear_4 0 2 i s h r) (λ x. h)

  module _ (h : stands 1 s (gate_state_row i)) where
    octets_clear_2 : (r : ClearRecord) → After 1 3 i s h r (clear_invalid_receive_of s r.id)
    unfolding clear_invalid_receive_of
    octets_clear_2 r =
        refused_by (After 1 3 i s h r) (not (gate_is_set s r.id)) NotSetUp s _ (λ x. h)
        (λ x. flag_written 1 s (gate_state_row i) (gate_state_row r.id) (row_of_gate_state (with_flags (gate s r.id) false (gate s r.id).octets_flag)) (raised (gate s r.id).octets_flag) h)

    octets_clear_3 : (r : ClearRecord) → r.id < gate_count → r.flag ≡ 3 → After 1 3 i s h r (clear_octets_of s r.id)
    unfolding clear_octets_of
    octets_clear_3 r l e =
        refused_by (After 1 3 i s h r) (not (gate_is_set s r.id)) NotSetUp s _ (λ x. h) (λ x. away 1 s (gate_state_row i) (gate_state_row r.id) _ (let n = other_id 3 i r e x in omega arith) h)

    octets_cleared : (r : ClearRecord) (row : Filter) → r.id < filter_count → (r.flag ≢ 1 → r.id < gate_count) → Spares 3 i r (clear_of s r row).verdict → stands 1 (clear_of s r row).bank (gate_state_row i)
    octets_cleared r row l l' =
        clear_by_lem (After 1 3 i s h r) s r row (λ e. clear_1 1 3 i s h r row) (λ e. octets_clear_2 r) (λ e. octets_clear_3 r (l' (λ q. omega (arith, e, q))) e) (λ e. clear_4 1 3 i s h r) (λ x. h)

-- after every call but a taken clear of flag 2 and this id
pub invalid_receive_stands : (b : Bridge) (c : Call) (i : ℕ) → i < gate_count → (gate b.bank i).invalid_receive_flag ≡ true → clears 2 i (event_of b c) ≡ false → (gate (take_of b c).after.bank i).invalid_receive_flag ≡ true
invalid_receive_stands b c i small h =
    one_call b c (Standing 0 i reaches_invalid_receive) 2 i h (gate_setups 0 i reaches_invalid_receive b c h) (gate_arrived 0 i reaches_invalid_receive b.bank b.lists h) (invalid_receive_cleared i small b.bank h)

-- after every call but a taken clear of flag 3 and this id
pub octets_stands : (b : Bridge) (c : Call) (i : ℕ) → i < gate_count → (gate b.bank i).octets_flag ≡ true → clears 3 i (event_of b c) ≡ false → (gate (take_of b c).after.bank i).octets_flag ≡ true
octets_stands b c i small h =
    one_call b c (Standing 1 i reaches_octets) 3 i h (gate_setups 1 i reaches_octets b c h) (gate_arrived 1 i reaches_octets b.bank b.lists h) (octets_cleared i small b.bank h)
