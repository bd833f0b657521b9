-- Flag 1, a filter's oversize flag: no call lifts it but a taken clear of it.
use Rattle.std.specs.Prelude.{ℕ, ◌<◌, true, false, not, List, ◌≢◌, ◌≡◌}
use Rattle.std.proofs.Common.{arith}
use Rattle.sizes.specs.Meaning.{filter_count, gate_count}
use Rattle.bank.specs.declared.Counter.TheVariants.{Matching, PassingSdu, NotPassingSdu, Passing, NotPassing, Red as RedFrames}
use Rattle.bank.specs.declared.Counter.{Counter}
use Rattle.record.specs.declared.ArrivalRecord.{ArrivalRecord}
use Rattle.record.specs.declared.ClearRecord.{ClearRecord}
use Rattle.record.specs.declared.Refusal.TheVariants.{NotSetUp}
use Rattle.bank.specs.Meaning.{Rows, counters_row, gate_state_row, meter_state_row, counters, bump, component_row, scheduler_row, group_row, port_row}
use Rattle.filter.specs.declared.Filter.{Filter}
use Rattle.filter.specs.Meaning.{Found}
use Rattle.filter.specs.Meaning.{counts_of}
use Rattle.verdict.specs.Meaning.{Told}
use Rattle.setup.specs.Meaning.{clear_oversize_of, clear_invalid_receive_of, clear_octets_of, clear_red_of, clear_of}
use Rattle.setup.proofs.Cases.{refused_by, clear_by_lem}
use Rattle.setup.proofs.Laws.{meter_other}
use Rattle.path.specs.Meaning.{arrival_of}
use Rattle.stage.specs.Meaning.{Bridge, taken_of, take_of}
use Rattle.promises.specs.Meaning.{Call, event_of}
use Rattle.promises.proofs.Untouched.{setup_row}
use Rattle.promises.proofs.Ways.{Kept, arrived_keeps}
use Rattle.promises.specs.Flags.Meaning.{clears}
use Rattle.promises.proofs.Flags.Standing.{stands, flag_written, kept_row, away, raised, Spares, other_id, one_call}

module _ (i : ℕ) where
  abbrev Oversize : Rows → Type 0
  Oversize s = stands 6 s (counters_row i)

  module _ (s : Rows) (f : ℕ) (h : Oversize s) where
    oversize_bumped : (k : Counter) → Oversize (bump s f k)
    oversize_bumped Matching = flag_written 6 s (counters_row i) (counters_row f) _ (λ k. k) h
    oversize_bumped PassingSdu = flag_written 6 s (counters_row i) (counters_row f) _ (λ k. k) h
    oversize_bumped NotPassingSdu = flag_written 6 s (counters_row i) (counters_row f) _ (λ k. k) h
    oversize_bumped Passing = flag_written 6 s (counters_row i) (counters_row f) _ (λ k. k) h
    oversize_bumped NotPassing = flag_written 6 s (counters_row i) (counters_row f) _ (λ k. k) h
    oversize_bumped RedFrames = flag_written 6 s (counters_row i) (counters_row f) _ (λ k. k) h

  module _ (lists : List ℕ) (a : ArrivalRecord) (f : ℕ) (row : Filter) where
    oversize_kept : Kept lists a f row Oversize
    oversize_kept = record {
      counts = λ s k h. oversize_bumped s f h k;
      marks = λ s flag own. flag_written 6 s (counters_row i) (counters_row f) _ (λ k. raised flag (own k));
      gates = λ s. away 6 s (counters_row i) (gate_state_row row.gate) _ (omega arith);
      meters = λ s e. away 6 s (counters_row i) (meter_state_row row.meter) _ (omega arith);
      schedulers = λ s j x. away 6 s (counters_row i) (scheduler_row j) _ (omega arith);
      groups = λ s j at. away 6 s (counters_row i) (group_row j) _ (omega arith);
      ports = λ s n. away 6 s (counters_row i) (port_row a.port) _ (omega arith);
    }

  oversize_arrived : (s : Rows) (lists : List ℕ) → Oversize s → (a : ArrivalRecord) (found : Found) → Oversize (arrival_of s lists a found).bank
  oversize_arrived s lists h a found = arrived_keeps Oversize s lists a found h (away 6 s (counters_row i) component_row _ (omega arith) h) (oversize_kept lists a)

  module _ (small : i < filter_count) (s : Rows) (h : Oversize s) where
    abbrev OversizeAfter : ClearRecord → Told → Type 0
    OversizeAfter r t = Spares 1 i r t.verdict → Oversize t.bank

    oversize_clear_1 : (r : ClearRecord) (row : Filter) → r.id < filter_count → r.flag ≡ 1 → OversizeAfter r (clear_oversize_of s r.id row)
    unfolding clear_oversize_of
    oversize_clear_1 r row l e =
        refused_by (OversizeAfter r) (not (counts_of s row)) NotSetUp s _ (λ k. h)
        (λ k. away 6 s (counters_row i) (counters_row r.id) _ (let n = other_id 1 i r e k in omega arith) h)

    oversize_clear_2 : (r : ClearRecord) → OversizeAfter r (clear_invalid_receive_of s r.id)
    unfolding clear_invalid_receive_of
    oversize_clear_2 r = refused_by (OversizeAfter r) _ NotSetUp s _ (λ k. h) (λ k. away 6 s (counters_row i) (gate_state_row r.id) _ (omega arith) h)

    oversize_clear_3 : (r : ClearRecord) → OversizeAfter r (clear_octets_of s r.id)
    unfolding clear_octets_of
    oversize_clear_3 r = refused_by (OversizeAfter r) _ NotSetUp s _ (λ k. h) (λ k. away 6 s (counters_row i) (gate_state_row r.id) _ (omega arith) h)

    oversize_clear_4 : (r : ClearRecord) → OversizeAfter r (clear_red_of s r.id)
    unfolding clear_red_of
    oversize_clear_4 r = refused_by (OversizeAfter r) _ NotSetUp s _ (λ k. h) (λ k. away 6 s (counters_row i) (meter_state_row r.id) _ (omega arith) h)

    oversize_cleared : (r : ClearRecord) (row : Filter) → r.id < filter_count → (r.flag ≢ 1 → r.id < gate_count) → Spares 1 i r (clear_of s r row).verdict → Oversize (clear_of s r row).bank
    oversize_cleared r row l l' = clear_by_lem (OversizeAfter r) s r row (oversize_clear_1 r row l) (λ e. oversize_clear_2 r) (λ e. oversize_clear_3 r) (λ e. oversize_clear_4 r) (λ k. h)

-- after every call but a taken clear of flag 1 and this id
pub oversize_stands : (b : Bridge) (c : Call) (i : ℕ) → i < filter_count → (counters b.bank i).oversize ≡ true → clears 1 i (event_of b c) ≡ false → (counters (take_of b c).after.bank i).oversize ≡ true
oversize_stands b c i small h =
    one_call b c (Oversize i) 1 i h
    (λ r used k. kept_row 6 b.bank (taken_of b c r used).after.bank (counters_row i) (setup_row b c (counters_row i) (omega arith) (λ j. omega arith) (λ x. meter_other b.bank (counters_row i) x (omega arith) (omega arith)) r used k) h)
    (oversize_arrived i b.bank b.lists h) (oversize_cleared i small b.bank h)
