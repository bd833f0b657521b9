-- Each view of the bank that agrees with what is known of a past: what is set up has a record, and what is kept of it is what the record says.
use Rattle.std.specs.Prelude.{ℕ, ◌%◌, ◌^◌, ◌≤◌, ◌<◌, min, List, ◌≡◌, refl, length}
use Rattle.std.proofs.Math.Option.{Option, none, some}
use Rattle.std.proofs.Common.{ap, ◌∙◌, arith}
use Rattle.sizes.specs.Meaning.{port_count, gate_count, entry_count, meter_count, group_count, scheduler_count}
use Rattle.record.specs.declared.FilterRecord.{FilterRecord}
use Rattle.record.specs.declared.GateRecord.{GateRecord}
use Rattle.record.specs.declared.PortRecord.{PortRecord}
use Rattle.record.specs.declared.MeterRecord.{MeterRecord}
use Rattle.record.specs.declared.SchedulerRecord.{SchedulerRecord}
use Rattle.bank.specs.Meaning.{Rows, word, is_set, port_row, gate_row, meter_row, group_row, scheduler_row, port, gate_is_set, entries, meter_is_set, group, scheduler_is_set, scheduler_group, burst}
use Rattle.filter.specs.declared.Filter.{Filter}
use Rattle.filter.specs.Meaning.{is_filter_of}
use Rattle.promises.specs.Past.Meaning.{of_it, is_there, Known, overhead_in, residence_in, group_named, burst_in}
use Rattle.promises.proofs.Past.Agrees.{InRange, Every, set_word, FilterSaid, BankSaid, gate_row_said, meter_row_said}
use Rattle.record.specs.declared.Record.TheVariants as kind

pub set_there : {A : Type 0} (w : ℕ) (o : Option A) → w ≡ set_word o → is_set w ≡ is_there o
set_there w none e = ap is_set e
set_there w (some r) e = ap is_set e

pub filter_set : (o : Option FilterRecord) (row : Filter) → FilterSaid o row → is_filter_of row ≡ is_there o
unfolding is_filter_of
filter_set none row a = ap is_filter_of a.is
filter_set (some r) row a = ap is_filter_of a.is ∙ a.filters

module _ (k : Known) (s : Rows) (all : BankSaid k s) where
  pub port_set : (i : ℕ) → i < port_count → (port s i).set ≡ is_there (k.port i)
  port_set i h = set_there _ (k.port i) ((all (port_row i)).ports i h refl).sets

  pub port_overhead : (i : ℕ) → i < port_count → (port s i).overhead ≡ overhead_in k i
  port_overhead i h = let a = (all (port_row i)).ports i h refl in ap (λ w. w % 2 ^ 8) a.overheads ∙ whole (k.port i) a.ranged
    where
      whole : (o : Option PortRecord) → Every (λ r. InRange (kind.Port r)) o → of_it (λ r. r.overhead) 0 o % 2 ^ 8 ≡ of_it (λ r. r.overhead) 0 o
      whole none ranged = refl
      whole (some r) ranged = omega (arith, ranged.ranges)

  pub gate_set : (i : ℕ) → i < gate_count → gate_is_set s i ≡ is_there (k.gate i)
  gate_set i h = ap (λ (row : List ℕ). is_set (word row 0)) ((all (gate_row i)).gates i h refl).words ∙ said (k.gate i) (length (k.entries i))
    where
      said : (o : Option GateRecord) (n : ℕ) → is_set (word (gate_row_said o n) 0) ≡ is_there o
      said none n = refl
      said (some r) n = refl

  pub entry_count_lem : (i : ℕ) → i < gate_count → entries s i ≡ length (k.entries i)
  entry_count_lem i h = let a = (all (gate_row i)).gates i h refl in ap (λ (row : List ℕ). min (word row 6) entry_count) a.words ∙ said (k.gate i) (length (k.entries i)) a.room
    where
      said : (o : Option GateRecord) (n : ℕ) → n ≤ entry_count → min (word (gate_row_said o n) 6) entry_count ≡ n
      said none n l = omega arith
      said (some r) n l = omega arith

  pub meter_set : (i : ℕ) → i < meter_count → meter_is_set s i ≡ is_there (k.meter i)
  meter_set i h = ap (λ (row : List ℕ). is_set (word row 0)) ((all (meter_row i)).meters i h refl).words ∙ said (k.meter i)
    where
      said : (o : Option MeterRecord) → is_set (word (meter_row_said o) 0) ≡ is_there o
      said none = refl
      said (some r) = refl

  pub group_set : (i : ℕ) → i < group_count → (group s i).set ≡ is_there (k.group i)
  group_set i h = set_there _ (k.group i) ((all (group_row i)).groups i h refl).sets

  pub group_residence : (i : ℕ) → i < group_count → (group s i).residence ≡ residence_in k i
  group_residence i h = ((all (group_row i)).groups i h refl).residences

  pub scheduler_set : (i : ℕ) → i < scheduler_count → scheduler_is_set s i ≡ is_there (k.scheduler i)
  scheduler_set i h = set_there _ (k.scheduler i) ((all (scheduler_row i)).schedulers i h refl).sets

  pub scheduler_group_lem : (i : ℕ) → i < scheduler_count → scheduler_group s i ≡ group_named k i
  scheduler_group_lem i h = let a = (all (scheduler_row i)).schedulers i h refl in ap (λ w. w % group_count) a.groups ∙ whole (k.scheduler i) a.ranged
    where
      whole : (o : Option SchedulerRecord) → Every (λ r. InRange (kind.Scheduler r)) o → of_it (λ r. r.group) 0 o % group_count ≡ of_it (λ r. r.group) 0 o
      whole none ranged = refl
      whole (some r) ranged = omega (arith, ranged.ranges)

  pub scheduler_burst : (i : ℕ) → i < scheduler_count → (burst s i).0 ≡ burst_in k i
  scheduler_burst i h = let a = (all (scheduler_row i)).schedulers i h refl in ap (λ w. w % 2 ^ 32) a.bursts ∙ whole (k.scheduler i) a.ranged
    where
      whole : (o : Option SchedulerRecord) → Every (λ r. InRange (kind.Scheduler r)) o → of_it (λ r. r.cbs.0) 0 o % 2 ^ 32 ≡ of_it (λ r. r.cbs.0) 0 o
      whole none ranged = refl
      whole (some r) ranged = omega (arith, ranged.ranges)
