-- Which rows of the bank a setup record leaves as they were.
use Rattle.std.specs.Prelude.{ℕ, Bool, true, false, cond, List, ◌≢◌, ◌≡◌, refl, ltb, set}
use Rattle.sizes.specs.Meaning.{entry_count}
use Rattle.record.specs.declared.Record.{Record}
use Rattle.record.specs.declared.Record.TheVariants as kind
use Rattle.record.specs.declared.FilterRecord.{FilterRecord}
use Rattle.record.specs.declared.GateEntryRecord.{GateEntryRecord}
use Rattle.record.specs.declared.GateRecord.{GateRecord}
use Rattle.record.specs.declared.GroupRecord.{GroupRecord}
use Rattle.record.specs.declared.MeterRecord.{MeterRecord}
use Rattle.record.specs.declared.PortRecord.{PortRecord}
use Rattle.record.specs.declared.SchedulerRecord.{SchedulerRecord}
use Rattle.record.specs.declared.StartRecord.{StartRecord}
use Rattle.record.specs.declared.Refusal.TheVariants.{SetUpAlready}
use Rattle.record.specs.Meaning.{body_in}
use Rattle.record.proofs.Sorts.{Setup, never_setup}
use Rattle.bank.specs.Meaning.{Rows, port_row, gate_row, group_row, scheduler_row, entries, component_row}
use Rattle.bank.proofs.Rows.{row_other}
use Rattle.filter.specs.Meaning.{Missing, ExceedsBurst, no_key}
use Rattle.filter.specs.Meaning.{is_filter_of, row_of}
use Rattle.setup.specs.Meaning.{Listed, set_port_of, set_gate_of, add_entry_of, set_meter_of, set_group_of, set_scheduler_of, start_of}
use Rattle.setup.proofs.Laws.{port_other, gate_other, group_other, scheduler_other, start_other}
use Rattle.stage.specs.Meaning.{Bridge, Took, bridge, refused_of, filter_of, first_row, taken_of}
use Rattle.promises.specs.Meaning.{Call}

-- ---- a setup record

pub entry_row : (s : Rows) (lists body : List ℕ) (r : GateEntryRecord) (q : ℕ) → q ≢ gate_row r.gate → (add_entry_of s lists body r).bank q ≡ s q
unfolding add_entry_of
entry_row s lists body r q h = by_room (ltb (entries s r.gate) entry_count) _ _ (row_other _ _ _ q h) refl
  where
    by_room : (t : Bool) (x y : Listed) → x.bank q ≡ s q → y.bank q ≡ s q → (cond t x y).bank q ≡ s q
    by_room true x y p p' = p
    by_room false x y p p' = p'

-- what is to be shown of each setup record so that P holds of the bridge that it leaves
pub record Setups (b : Bridge) (c : Call) (P : Bridge → Type 0) : Type 0 where
  pub now : P b
  pub ports : (r : PortRecord) → P (bridge b.table (set_port_of b.bank r).bank b.lists)
  pub filters : (r : FilterRecord) → P (bridge (set b.table r.id (filter_of r)) b.bank b.lists)
  pub gates : (r : GateRecord) → P (bridge b.table (set_gate_of b.bank r).bank b.lists)
  pub entries : (r : GateEntryRecord) (used : ℕ) → P (bridge b.table (add_entry_of b.bank b.lists (body_in c used) r).bank (add_entry_of b.bank b.lists (body_in c used) r).lists)
  pub meters : (r : MeterRecord) → P (bridge b.table (set_meter_of b.bank r).bank b.lists)
  pub groups : (r : GroupRecord) → P (bridge b.table (set_group_of b.bank r).bank b.lists)
  pub schedulers : (r : SchedulerRecord) → P (bridge b.table (set_scheduler_of b.bank r).bank b.lists)
  pub starts : (r : StartRecord) → P (bridge b.table (start_of b.bank r (first_row b Missing no_key) (first_row b ExceedsBurst no_key)).bank b.lists)

module _ (b : Bridge) (c : Call) (P : Bridge → Type 0) (all : Setups b c P) where
  placed : (t : Bool) (o : Took) → P o.after → P (cond t (refused_of b SetUpAlready) o).after
  placed true o h = all.now
  placed false o h = h

  pub setup_holds : (r : Record) (used : ℕ) → Setup r → P (taken_of b c r used).after
  unfolding taken_of
  setup_holds (kind.Port r) used h = all.ports r
  setup_holds (kind.Filter r) used h = placed (is_filter_of (row_of b.table r.id)) _ (all.filters r)
  setup_holds (kind.Gate r) used h = all.gates r
  setup_holds (kind.GateEntry r) used h = all.entries r used
  setup_holds (kind.Meter r) used h = all.meters r
  setup_holds (kind.Group r) used h = all.groups r
  setup_holds (kind.Scheduler r) used h = all.schedulers r
  setup_holds (kind.Start r) used h = all.starts r
  setup_holds (kind.Arrival a) used h = never_setup h
  setup_holds (kind.Clear r) used h = never_setup h

-- a row that is none of the component, the ports, the groups and the schedulers
pub record Aside (q : ℕ) : Type 0 where
  pub component : q ≢ component_row
  pub ports : (j : ℕ) → q ≢ port_row j
  pub groups : (j : ℕ) → q ≢ group_row j
  pub schedulers : (j : ℕ) → q ≢ scheduler_row j

-- and none of the gates' settings: of these records only a meter's can write it
module _ (b : Bridge) (c : Call) (q : ℕ) (aside : Aside q) (no_gate : (j : ℕ) → q ≢ gate_row j) (meters : (r : MeterRecord) → (set_meter_of b.bank r).bank q ≡ b.bank q) where
  pub setup_row : (r : Record) (used : ℕ) → Setup r → (taken_of b c r used).after.bank q ≡ b.bank q
  setup_row =
      setup_holds b c (λ x. x.bank q ≡ b.bank q)
      (record {
        now = refl;
        ports = λ r. port_other b.bank q r aside.component (aside.ports r.port);
        filters = λ r. refl;
        gates = λ r. gate_other b.bank q r (no_gate r.id);
        entries = λ r used. entry_row b.bank b.lists _ r q (no_gate r.gate);
        meters = meters;
        groups = λ r. group_other b.bank q r (aside.groups r.id);
        schedulers = λ r. scheduler_other b.bank q r (aside.schedulers r.id);
        starts = λ r. start_other b.bank q r _ _ aside.component;
      })
