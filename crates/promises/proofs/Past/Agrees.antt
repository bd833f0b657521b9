-- The bridge agrees with what is known of a past: each row of the bank that a record writes holds what the record says, each place of the filter table
-- its filter's record, each list its gate's entries. Stated row by row, so that a store has to show no more than its own row.
use Rattle.std.specs.Prelude.{ℕ, ◌*◌, ◌≤◌, ◌<◌, Bool, true, false, List, [], ◌∷◌, map, ◌≢◌, ◌≡◌, length, drop}
use Rattle.std.proofs.Math.Option.{Option, none, some}
use Rattle.std.proofs.Common.{arith}
use Rattle.std.proofs.Math.Decide.{ℕ_discrete}
use mir.Val.{bool_byte}
use Rattle.sizes.specs.Meaning.{filter_count, port_count, gate_count, entry_count, meter_count, group_count, scheduler_count, list_octets, lists_octets}
use Rattle.gate.specs.Meaning.{entries_from}
use Rattle.meter.specs.declared.Meter.{Meter}
use Rattle.meter.specs.Meaning.{fresh_meter_of}
use Rattle.record.specs.declared.Record.{Record}
use Rattle.record.specs.declared.FilterRecord.{FilterRecord}
use Rattle.record.specs.declared.PortRecord.{PortRecord}
use Rattle.record.specs.declared.GateRecord.{GateRecord}
use Rattle.record.specs.declared.GateEntryRecord.{GateEntryRecord}
use Rattle.record.specs.declared.MeterRecord.{MeterRecord}
use Rattle.record.specs.declared.GroupRecord.{GroupRecord}
use Rattle.record.specs.declared.SchedulerRecord.{SchedulerRecord}
use Rattle.record.proofs.Ranges.{Ranged}
use Rattle.bank.specs.Meaning.{Rows, with_row, word, is_set, component_row, port_row, gate_row, gate_state_row, meter_row, meter_state_row, group_row, scheduler_row, counters_row, row_of_meter}
use Rattle.bank.proofs.Rows.{row_same, row_other}
use Rattle.filter.specs.declared.Filter.{Filter}
use Rattle.filter.specs.Meaning.{no_row, is_filter_of, row_of}
use Rattle.stage.specs.Meaning.{Bridge, filter_of}
use Rattle.promises.specs.Past.Meaning.{of_it, entry_of, Known, started_in, classes_in, clock_in, largest_in, lacks_part, over_burst}
use Rattle.record.specs.declared.Record.TheVariants as kind

-- ---- what a record says of the words of its row

-- the fields of a record are in range
pub record InRange (r : Record) : Type 0 where
  pub used : ℕ
  pub ranges : Ranged r used

abbrev pub Every : {A : Type 0} → (A → Type 0) → Option A → Type 0
Every P none = Unit {0}
Every P (some r) = P r

-- the first word of an object's row
abbrev pub set_word : {A : Type 0} → Option A → ℕ
set_word o = of_it (λ r. 1) 0 o

pub record StageSaid (started : Bool) (classes time overhead : ℕ) (classesWord clockWord overheadWord : ℕ) : Type 0 where
  pub starts : is_set classesWord ≡ started
  pub counts : classesWord ≡ classes
  pub clocks : clockWord ≡ time
  pub overheads : overheadWord ≡ overhead

pub record PortSaid (o : Option PortRecord) (set overhead : ℕ) : Type 0 where
  pub sets : set ≡ set_word o
  pub overheads : overhead ≡ of_it (λ r. r.overhead) 0 o
  pub ranged : Every (λ r. InRange (kind.Port r)) o

-- a gate's row, with n entries
abbrev pub gate_row_said : Option GateRecord → ℕ → List ℕ
gate_row_said none n = 0 ∷ 0 ∷ 0 ∷ 0 ∷ 0 ∷ 0 ∷ n ∷ 0 ∷ []
gate_row_said (some r) n = 1 ∷ bool_byte (is_set r.state) ∷ r.ipv ∷ bool_byte (is_set r.invalid_receive_block) ∷ bool_byte (is_set r.octets_block) ∷ r.base_time ∷ n ∷ 0 ∷ []

pub record GateSaid (o : Option GateRecord) (es : List GateEntryRecord) (row : List ℕ) : Type 0 where
  pub words : row ≡ gate_row_said o (length es)
  pub room : length es ≤ entry_count
  pub ranged : Every (λ r. InRange (kind.Gate r)) o

-- a meter as its record sets it up
abbrev pub meter_said : MeterRecord → Meter
meter_said r = fresh_meter_of r.cir r.cbs r.eir r.ebs (is_set r.coupling) (is_set r.colour_aware) (is_set r.drop_on_yellow) (is_set r.red_block)

abbrev pub meter_row_said : Option MeterRecord → List ℕ
meter_row_said none = 0 ∷ 0 ∷ 0 ∷ 0 ∷ 0 ∷ 0 ∷ 0 ∷ 0 ∷ []
meter_row_said (some r) = row_of_meter (meter_said r)

pub record MeterSaid (o : Option MeterRecord) (row : List ℕ) : Type 0 where
  pub words : row ≡ meter_row_said o
  pub ranged : Every (λ r. InRange (kind.Meter r)) o

pub record GroupSaid (o : Option GroupRecord) (set residence : ℕ) : Type 0 where
  pub sets : set ≡ set_word o
  pub residences : residence ≡ of_it (λ r. r.residence) 0 o

pub record SchedulerSaid (o : Option SchedulerRecord) (set group rate burst : ℕ) : Type 0 where
  pub sets : set ≡ set_word o
  pub groups : group ≡ of_it (λ r. r.group) 0 o
  pub rates : rate ≡ of_it (λ r. r.cir.0) 0 o
  pub bursts : burst ≡ of_it (λ r. r.cbs.0) 0 o
  pub ranged : Every (λ r. InRange (kind.Scheduler r)) o

-- ---- the bank, row by row. What a frame leaves in the rows of flags, buckets and counters is no record's

pub record RowSaid (k : Known) (q : ℕ) (row : List ℕ) : Type 0 where
  pub stage : q ≡ component_row → StageSaid (started_in k) (classes_in k) (clock_in k) (largest_in k) (word row 0) (word row 1) (word row 2)
  pub ports : (i : ℕ) → i < port_count → q ≡ port_row i → PortSaid (k.port i) (word row 0) (word row 1)
  pub gates : (i : ℕ) → i < gate_count → q ≡ gate_row i → GateSaid (k.gate i) (k.entries i) row
  pub meters : (i : ℕ) → i < meter_count → q ≡ meter_row i → MeterSaid (k.meter i) row
  pub meter_states : (i : ℕ) → i < meter_count → q ≡ meter_state_row i → is_set (word row 4) ≡ of_it (λ r. is_set r.red_block) false (k.meter i)
  pub groups : (i : ℕ) → i < group_count → q ≡ group_row i → GroupSaid (k.group i) (word row 0) (word row 1)
  pub schedulers : (i : ℕ) → i < scheduler_count → q ≡ scheduler_row i → SchedulerSaid (k.scheduler i) (word row 0) (word row 1) (word row 2) (word row 3)

abbrev pub BankSaid : Known → Rows → Type 0
BankSaid k s = (q : ℕ) → RowSaid k q (s q)

-- what holds of every other row, and of the row that is stored, holds of all
pub stored : (P : ℕ → List ℕ → Type 0) (s : Rows) (r : ℕ) (vs : List ℕ) → ((q : ℕ) → q ≢ r → P q (s q)) → P r vs → (q : ℕ) → P q (with_row s r vs q)
stored P s r vs others own q = by_row (ℕ_discrete q r)
  where
    by_row : Dec (q ≡ r) → P q (with_row s r vs q)
    by_row (yes e) = rw e (rw (row_same s r vs) own)
    by_row (no n) = rw (row_other s r vs q n) (others q n)

pub keeps : (k : Known) (s : Rows) (r : ℕ) (vs : List ℕ) → BankSaid k s → RowSaid k r vs → BankSaid k (with_row s r vs)
keeps k s r vs all own = stored (RowSaid k) s r vs (λ q n. all q) own

-- ---- a row of one table is of no other

module _ {k : Known} {row : List ℕ} where
  pub of_stage : StageSaid (started_in k) (classes_in k) (clock_in k) (largest_in k) (word row 0) (word row 1) (word row 2) → RowSaid k component_row row
  of_stage own = record {
    stage = λ e. own;
    ports = λ j h e. absurd (omega arith);
    gates = λ j h e. absurd (omega arith);
    meters = λ j h e. absurd (omega arith);
    meter_states = λ j h e. absurd (omega arith);
    groups = λ j h e. absurd (omega arith);
    schedulers = λ j h e. absurd (omega arith);
  }

  pub of_port : (i : ℕ) → ((j : ℕ) → j < port_count → port_row i ≡ port_row j → PortSaid (k.port j) (word row 0) (word row 1)) → RowSaid k (port_row i) row
  of_port i own = record {
    stage = λ e. absurd (omega arith);
    ports = own;
    gates = λ j h e. absurd (omega arith);
    meters = λ j h e. absurd (omega arith);
    meter_states = λ j h e. absurd (omega arith);
    groups = λ j h e. absurd (omega arith);
    schedulers = λ j h e. absurd (omega arith);
  }

  pub of_gate_lem : (i : ℕ) → ((j : ℕ) → j < gate_count → gate_row i ≡ gate_row j → GateSaid (k.gate j) (k.entries j) row) → RowSaid k (gate_row i) row
  of_gate_lem i own = record {
    stage = λ e. absurd (omega arith);
    ports = λ j h e. absurd (omega arith);
    gates = own;
    meters = λ j h e. absurd (omega arith);
    meter_states = λ j h e. absurd (omega arith);
    groups = λ j h e. absurd (omega arith);
    schedulers = λ j h e. absurd (omega arith);
  }

  pub of_meter_lem : (i : ℕ) → ((j : ℕ) → j < meter_count → meter_row i ≡ meter_row j → MeterSaid (k.meter j) row) → RowSaid k (meter_row i) row
  of_meter_lem i own = record {
    stage = λ e. absurd (omega arith);
    ports = λ j h e. absurd (omega arith);
    gates = λ j h e. absurd (omega arith);
    meters = own;
    meter_states = λ j h e. absurd (omega arith);
    groups = λ j h e. absurd (omega arith);
    schedulers = λ j h e. absurd (omega arith);
  }

  pub of_meter_state : (i : ℕ) → ((j : ℕ) → j < meter_count → meter_state_row i ≡ meter_state_row j → is_set (word row 4) ≡ of_it (λ r. is_set r.red_block) false (k.meter j)) → RowSaid k (meter_state_row i) row
  of_meter_state i own = record {
    stage = λ e. absurd (omega arith);
    ports = λ j h e. absurd (omega arith);
    gates = λ j h e. absurd (omega arith);
    meters = λ j h e. absurd (omega arith);
    meter_states = own;
    groups = λ j h e. absurd (omega arith);
    schedulers = λ j h e. absurd (omega arith);
  }

  pub of_group : (i : ℕ) → ((j : ℕ) → j < group_count → group_row i ≡ group_row j → GroupSaid (k.group j) (word row 0) (word row 1)) → RowSaid k (group_row i) row
  of_group i own = record {
    stage = λ e. absurd (omega arith);
    ports = λ j h e. absurd (omega arith);
    gates = λ j h e. absurd (omega arith);
    meters = λ j h e. absurd (omega arith);
    meter_states = λ j h e. absurd (omega arith);
    groups = own;
    schedulers = λ j h e. absurd (omega arith);
  }

  pub of_scheduler_lem : (i : ℕ) → ((j : ℕ) → j < scheduler_count → scheduler_row i ≡ scheduler_row j → SchedulerSaid (k.scheduler j) (word row 0) (word row 1) (word row 2) (word row 3)) → RowSaid k (scheduler_row i) row
  of_scheduler_lem i own = record {
    stage = λ e. absurd (omega arith);
    ports = λ j h e. absurd (omega arith);
    gates = λ j h e. absurd (omega arith);
    meters = λ j h e. absurd (omega arith);
    meter_states = λ j h e. absurd (omega arith);
    groups = λ j h e. absurd (omega arith);
    schedulers = own;
  }

  -- and these are of none of them
  pub of_gate_state : (i : ℕ) → RowSaid k (gate_state_row i) row
  of_gate_state i = record {
    stage = λ e. absurd (omega arith);
    ports = λ j h e. absurd (omega arith);
    gates = λ j h e. absurd (omega arith);
    meters = λ j h e. absurd (omega arith);
    meter_states = λ j h e. absurd (omega arith);
    groups = λ j h e. absurd (omega arith);
    schedulers = λ j h e. absurd (omega arith);
  }

  pub of_counters : (i : ℕ) → RowSaid k (counters_row i) row
  of_counters i = record {
    stage = λ e. absurd (omega arith);
    ports = λ j h e. absurd (omega arith);
    gates = λ j h e. absurd (omega arith);
    meters = λ j h e. absurd (omega arith);
    meter_states = λ j h e. absurd (omega arith);
    groups = λ j h e. absurd (omega arith);
    schedulers = λ j h e. absurd (omega arith);
  }

-- ---- the whole bridge

pub record FilterSaid (o : Option FilterRecord) (row : Filter) : Type 0 where
  pub is : row ≡ of_it filter_of no_row o
  pub filters : Every (λ r. is_filter_of (filter_of r) ≡ true) o

-- a filter that start does not refuse
abbrev pub Sound : Known → FilterRecord → Type 0
Sound k r = (lacks_part k r ≡ false) × (over_burst k r ≡ false)

pub record Agrees (k : Known) (b : Bridge) : Type 0 where
  pub places : length b.table ≡ filter_count
  pub octets : length b.lists ≡ lists_octets
  pub bank : BankSaid k b.bank
  pub filters : (i : ℕ) → FilterSaid (k.filter i) (row_of b.table i)
  pub lists : (i : ℕ) → i < gate_count → entries_from (drop (i * list_octets) b.lists) 0 (length (k.entries i)) ≡ map entry_of (k.entries i)
  -- since a start was taken, it refuses none of the filters
  pub complete : started_in k ≡ true → (i : ℕ) → i < filter_count → Every (Sound k) (k.filter i)
