-- An arrival moves the clock, and of what records say nothing else; a clear moves nothing of it.
use Rattle.std.specs.Prelude.{ℕ, Bool, not, ◌&&◌, ◌||◌, List, ◌≢◌, ◌≡◌, refl, leb}
use Rattle.std.proofs.Common.{◌∙◌}
use Rattle.logic.specs.Laws.{if_by}
use Rattle.bucket.specs.declared.Octets.{Octets}
use Rattle.bucket.specs.Meaning.{grains}
use Rattle.meter.specs.declared.Meter.{Meter}
use Rattle.meter.specs.declared.Metered.{Metered}
use Rattle.meter.specs.Meaning.{filled_of, painted_of, meter_in_range, colour_of}
use Rattle.record.specs.declared.ArrivalRecord.{ArrivalRecord}
use Rattle.record.specs.declared.ClearRecord.{ClearRecord}
use Rattle.record.specs.declared.Refusal.TheVariants.{NotSetUp}
use Rattle.bank.specs.Meaning.{Rows, component_row, port_row, group_row, scheduler_row, counters_row, gate_state_row, meter_state_row, gate_is_set, meter, meter_is_set, row_of_meter_state, with_meter_state, row_with, row_of_scheduler_state, with_discarded, with_group_last, with_scheduler_state}
use Rattle.bank.proofs.Laws.{is_set_back}
use Rattle.scheduler.specs.declared.Scheduler.{Scheduler}
use Rattle.filter.specs.declared.Filter.{Filter}
use Rattle.filter.specs.Meaning.{Found}
use Rattle.filter.specs.Meaning.{counts_of}
use Rattle.verdict.specs.Meaning.{Verdict}
use Rattle.verdict.specs.Meaning.{Told}
use Rattle.setup.specs.Meaning.{clear_oversize_of, clear_invalid_receive_of, clear_octets_of, clear_red_of, clear_of, red_low}
use Rattle.setup.proofs.Cases.{refused_by, clear_by_lem}
use Rattle.path.specs.Meaning.{coloured_of, arrival_of}
use Rattle.promises.proofs.Ways.{ticked, Kept, frame_keeps, arrived_along}
use Rattle.promises.proofs.Refusals.Keeps.{Framed, passed, dropped, frame_framed}
use Rattle.promises.specs.Past.Meaning.{Known}
use Rattle.promises.proofs.Past.Grows.{noted, noted_by}
use Rattle.promises.proofs.Past.Agrees.{RowSaid, BankSaid, stored, keeps, of_stage, of_port, of_meter_state, of_group, of_scheduler_lem, of_gate_state, of_counters}
use Rattle.record.specs.declared.Record.TheVariants as kind

-- ---- what the stores of a frame's path keep

module _ (k : Known) (s : Rows) (all : BankSaid k s) where
  port_counted : (p n : ℕ) → BankSaid k (with_discarded s p n)
  port_counted p n = let a = all (port_row p) in keeps k s (port_row p) (row_with (s (port_row p)) 2 n) all (of_port p a.ports)

  group_moved : (j at : ℕ) → BankSaid k (with_group_last s j at)
  group_moved j at = let a = all (group_row j) in keeps k s (group_row j) (row_with (s (group_row j)) 2 at) all (of_group j a.groups)

  scheduler_moved : (j : ℕ) (x : Scheduler) → BankSaid k (with_scheduler_state s j x)
  scheduler_moved j x = let a = all (scheduler_row j) in keeps k s (scheduler_row j) (row_of_scheduler_state (s (scheduler_row j)) x) all (of_scheduler_lem j a.schedulers)

  -- of a meter's state only the red block is a record's
  meter_moved : (j : ℕ) (x : Meter) → x.red_block ≡ (meter s j).red_block → BankSaid k (with_meter_state s j x)
  meter_moved j x same = let a = all (meter_state_row j) in keeps k s (meter_state_row j) (row_of_meter_state x) all (of_meter_state j (λ i h e. is_set_back x.red_block ∙ same ∙ a.meter_states i h e))

-- no frame moves a meter's red block
abbrev Block : Meter → Metered → Type 0
Block m r = r.meter.red_block ≡ m.red_block

painted_block : (m : Meter) (need : ℕ) (eligible : Bool) → Block m (painted_of m need eligible)
unfolding painted_of
painted_block m need eligible =
    if_by (Block m) m.red_flag _ _ (λ e. refl)
    (λ e. if_by (Block m) ((not eligible || not m.colour_aware) && leb need m.committed) _ _ (λ e. refl)
    (λ e. if_by (Block m) (leb need m.excess) _ _ (λ e. refl) (λ e. refl)))

coloured_block : (m : Meter) (time : ℕ) (msdu : Octets) (eligible : Bool) → Block m (colour_of m time msdu eligible)
unfolding colour_of filled_of
coloured_block m time msdu eligible =
    if_by (Block m) (meter_in_range m time msdu) _ _
    (λ e. if_by (Block m) (leb m.last time) _ _ (λ e. painted_block (filled_of m time) (grains msdu.0) eligible) (λ e. refl)) (λ e. refl)

frame_said : (k : Known) (lists : List ℕ) (a : ArrivalRecord) (f : ℕ) (row : Filter) → Kept lists a f row (BankSaid k)
frame_said k lists a f row = record {
  counts = λ s c all. keeps k s (counters_row f) _ all (of_counters f);
  marks = λ s flag own all. keeps k s (counters_row f) _ all (of_counters f);
  gates = λ s all. keeps k s (gate_state_row row.gate) _ all (of_gate_state row.gate);
  meters = λ s n all. meter_moved k s all row.meter (coloured_of s a row.meter).meter (coloured_block (meter s row.meter) a.time _ _);
  schedulers = λ s i x all. scheduler_moved k s all i x;
  groups = λ s j at all. group_moved k s all j at;
  ports = λ s n all. port_counted k s all a.port n;
}

-- ---- an arrival that is taken: its time is the last

module _ (k : Known) (s : Rows) (all : BankSaid k s) (a : ArrivalRecord) where
  abbrev arrival_known : Known
  arrival_known = noted k (kind.Arrival a)

  ticked_said : BankSaid arrival_known (ticked s a)
  ticked_said = stored (RowSaid arrival_known) s component_row (row_with (s component_row) 1 a.time) (λ q n. others q (s q) n (all q)) own
    where
      others : (q : ℕ) (row : List ℕ) → q ≢ component_row → RowSaid k q row → RowSaid arrival_known q row
      others q row n x = record { stage = λ e. absurd (n e); ports = x.ports; gates = x.gates; meters = x.meters; meter_states = x.meter_states; groups = x.groups; schedulers = x.schedulers }

      own : RowSaid arrival_known component_row (row_with (s component_row) 1 a.time)
      own = let x = (all component_row).stage refl in of_stage (record { starts = x.starts; counts = x.counts; clocks = refl; overheads = x.overheads })

  abbrev ArrivedSaid : Told → Type 0
  ArrivedSaid t = BankSaid (noted_by t.verdict k (kind.Arrival a)) t.bank

  framed_said : (v : Verdict) (s' : Rows) → Framed v → BankSaid arrival_known s' → BankSaid (noted_by v k (kind.Arrival a)) s'
  framed_said v s' (passed p) h = h
  framed_said v s' (dropped d) h = h

  pub arrived_said : (lists : List ℕ) (found : Found) → ArrivedSaid (arrival_of s lists a found)
  arrived_said lists found =
      arrived_along s lists a found ArrivedSaid
      (record {
        back = λ e. all;
        unmatched = λ e p n. ticked_said;
        matched = λ e f row n. framed_said _ _ (frame_framed (ticked s a) lists a f row) (frame_keeps lists a f row (BankSaid arrival_known) (frame_said arrival_known lists a f row) (ticked s a) ticked_said);
      })

-- ---- a clear

module _ (k : Known) (s : Rows) (all : BankSaid k s) where
  abbrev ClearedSaid : Told → Type 0
  ClearedSaid t = BankSaid k t.bank

  oversize_said : (i : ℕ) (row : Filter) → ClearedSaid (clear_oversize_of s i row)
  unfolding clear_oversize_of
  oversize_said i row = refused_by ClearedSaid (not (counts_of s row)) NotSetUp s _ all (keeps k s (counters_row i) _ all (of_counters i))

  invalid_receive_said : (i : ℕ) → ClearedSaid (clear_invalid_receive_of s i)
  unfolding clear_invalid_receive_of
  invalid_receive_said i = refused_by ClearedSaid (not (gate_is_set s i)) NotSetUp s _ all (keeps k s (gate_state_row i) _ all (of_gate_state i))

  octets_said : (i : ℕ) → ClearedSaid (clear_octets_of s i)
  unfolding clear_octets_of
  octets_said i = refused_by ClearedSaid (not (gate_is_set s i)) NotSetUp s _ all (keeps k s (gate_state_row i) _ all (of_gate_state i))

  red_said : (i : ℕ) → ClearedSaid (clear_red_of s i)
  unfolding clear_red_of
  red_said i = refused_by ClearedSaid (not (meter_is_set s i)) NotSetUp s _ all (meter_moved k s all i (red_low (meter s i)) refl)

  pub cleared_said : (r : ClearRecord) (row : Filter) → ClearedSaid (clear_of s r row)
  cleared_said r row = clear_by_lem ClearedSaid s r row (λ _. oversize_said r.id row) (λ _. invalid_receive_said r.id) (λ _. octets_said r.id) (λ _. red_said r.id) all
