-- A setup record that is taken: its row, its place or its list holds what it says, and all else is as it was.
use Prim.Native.Nat.{ℕ, zero, suc, ◌+◌, ◌≤◌, ◌<◌, max}
use Rattle.std.specs.Prelude.{true, false, not, List, [], ◌∷◌, ◌++◌, ◌≢◌, ◌≡◌, eqb, length}
use Rattle.std.proofs.Math.Option.{Option, none, some}
use Rattle.std.proofs.Math.Path.{refl, ap}
use Rattle.std.proofs.Common.{sym, ◌∙◌, arith, eq-eqb, ne_eqb, length-append}
use Rattle.std.proofs.Math.Decide.{ℕ_discrete}
use Rattle.sizes.specs.Meaning.{port_count, entry_count}
use Rattle.logic.specs.Laws.{never}
use Rattle.record.specs.declared.PortRecord.{PortRecord}
use Rattle.record.specs.declared.GateRecord.{GateRecord}
use Rattle.record.specs.declared.GateEntryRecord.{GateEntryRecord}
use Rattle.record.specs.declared.MeterRecord.{MeterRecord}
use Rattle.record.specs.declared.GroupRecord.{GroupRecord}
use Rattle.record.specs.declared.SchedulerRecord.{SchedulerRecord}
use Rattle.record.specs.declared.StartRecord.{StartRecord}
use Rattle.bank.specs.Meaning.{Rows, word, is_set, component_row, port_row, gate_row, meter_row, meter_state_row, group_row, scheduler_row, component, port, with_port, entries, row_of_gate, with_gate, with_entries, with_meter, row_of_meter, row_of_meter_state, row_of_group, with_group, row_of_scheduler, with_scheduler, with_classes, row_with}
use Rattle.bank.proofs.Laws.{is_set_back}
use Rattle.setup.specs.Meaning.{with_largest, fresh_scheduler_of}
use Rattle.promises.specs.Past.Meaning.{only, or_else, of_it, Known, overhead_in, largest_of, largest_in}
use Rattle.promises.proofs.Past.Grows.{noted}
use Rattle.promises.proofs.Past.Words.{entry_count_lem}
use Rattle.promises.proofs.Past.Agrees.{InRange, set_word, RowSaid, BankSaid, gate_row_said, meter_said, stored, of_stage, of_port, of_gate_lem, of_meter_lem, of_meter_state, of_group, of_scheduler_lem}
use Rattle.record.specs.declared.Record.TheVariants as kind

-- ---- an object's own record, and that of another

module _ {A : Type 0} (x : A) (o : Option A) where
  pub own_record : (n i : ℕ) → n ≡ i → or_else (only (eqb n i) x) o ≡ some x
  own_record n i e = rw (eq-eqb n i e)

  pub other_record : (n i : ℕ) → n ≢ i → or_else (only (eqb n i) x) o ≡ o
  other_record n i h = rw (ne_eqb n i h)

-- what is not set up has no record
pub no_record : {A : Type 0} (w : ℕ) (o : Option A) → w ≡ set_word o → is_set w ≡ false → o ≡ none
no_record w none e h = refl
no_record w (some r) e h = never (sym h ∙ ap is_set e)

-- ---- the largest overhead, when that of a port that had none is raised

module _ (f f' : ℕ → ℕ) (p : ℕ) (others : (i : ℕ) → i ≢ p → f' i ≡ f i) where
  largest_below : (n : ℕ) → n ≤ p → largest_of f' n ≡ largest_of f n
  unfolding largest_of
  largest_below zero h = refl
  largest_below (suc n) h = rw (largest_below n (omega arith), others n (omega arith))

  pub largest_raised : (n : ℕ) → p < n → f p ≡ 0 → largest_of f' n ≡ max (largest_of f n) (f' p)
  unfolding largest_of
  largest_raised zero h z = absurd (omega arith)
  largest_raised (suc n) h z = by_last (ℕ_discrete n p) (λ l. largest_raised n l z)
    where
      by_last : Dec (n ≡ p) → (p < n → largest_of f' n ≡ max (largest_of f n) (f' p)) → max (largest_of f' n) (f' n) ≡ max (max (largest_of f n) (f n)) (f' p)
      by_last (yes e) more =
          let below = largest_below n (omega (arith, e)) in
          let at : f n ≡ 0 = ap f e ∙ z in
          let at' : f' n ≡ f' p = ap f' e in
          omega (arith, below, at, at')
      by_last (no ne) more =
          let below = more (omega (arith, h, ne)) in
          let at = others n ne in
          omega (arith, below, at)

-- ---- a gate's row when its record comes, and when an entry comes

gate_renewed : (x : GateRecord) (o : Option GateRecord) (n : ℕ)
    → row_of_gate (gate_row_said o n) (is_set x.state) x.ipv (is_set x.invalid_receive_block) (is_set x.octets_block) x.base_time ≡ gate_row_said (some x) n
gate_renewed x none n = refl
gate_renewed x (some r) n = refl

entries_renewed : (o : Option GateRecord) (n m : ℕ) → row_with (gate_row_said o n) 6 m ≡ gate_row_said o m
entries_renewed none n m = refl
entries_renewed (some r) n m = refl

module _ (k : Known) (s : Rows) (all : BankSaid k s) where
  -- ---- kind 1, port

  module _ (x : PortRecord) (ranged : InRange (kind.Port x)) where
    abbrev port_known : Known
    port_known = noted k (kind.Port x)

    abbrev port_row_lem : ℕ
    port_row_lem = port_row x.port

    port_others : (q : ℕ) (row : List ℕ) → q ≢ port_row_lem → q ≢ component_row → RowSaid k q row → RowSaid port_known q row
    port_others q row n m a = record {
      stage = λ e. absurd (m e);
      ports = λ i h e. rw (other_record x (k.port i) x.port i (λ z. n (omega (arith, e, z)))) (a.ports i h e);
      gates = a.gates;
      meters = a.meters;
      meter_states = a.meter_states;
      groups = a.groups;
      schedulers = a.schedulers;
    }

    port_own : (row : List ℕ) → word row 0 ≡ 1 → word row 1 ≡ x.overhead → RowSaid port_known port_row_lem row
    port_own row e₀ e₁ = of_port x.port (λ i h e. rw (own_record x (k.port i) x.port i (omega (arith, ranged.ranges))) (record { sets = e₀; overheads = e₁; ranged = ranged }))

    module _ (free : (port s x.port).set ≡ false) where
      port_none : k.port x.port ≡ none
      port_none = no_record _ (k.port x.port) ((all port_row_lem).ports x.port (omega (arith, ranged.ranges)) refl).sets free

      raised : largest_in port_known ≡ max (largest_in k) x.overhead
      raised =
          largest_raised (overhead_in k) (overhead_in port_known) x.port (λ i n. ap (of_it (λ r. r.overhead) 0) (other_record x (k.port i) x.port i (λ z. n (sym z)))) port_count (omega (arith, ranged.ranges))
          (ap (of_it (λ r. r.overhead) 0) port_none)
          ∙ ap (λ o. max (largest_in k) (of_it (λ r. r.overhead) 0 o)) (own_record x (k.port x.port) x.port x.port refl)

      port_stage : RowSaid port_known component_row (row_with (s component_row) 2 (max (component s).overhead x.overhead))
      port_stage = let a = (all component_row).stage refl in of_stage (record { starts = a.starts; counts = a.counts; clocks = a.clocks; overheads = ap (λ n. max n x.overhead) a.overheads ∙ sym raised })

      pub port_said : (n : ℕ) → BankSaid port_known (with_port (with_largest s x.overhead) x.port (record { set = true; overhead = x.overhead; discarded = n }))
      port_said n =
          stored (RowSaid port_known) (with_largest s x.overhead) port_row_lem _
          (stored (λ q row. q ≢ port_row_lem → RowSaid port_known q row) s component_row _ (λ q m n. port_others q (s q) n m (all q)) (λ n. port_stage)) (port_own _ refl refl)

  -- ---- kind 3, gate. The count of its entries stays

  module _ (x : GateRecord) (ranged : InRange (kind.Gate x)) where
    abbrev gate_known : Known
    gate_known = noted k (kind.Gate x)

    gate_others : (q : ℕ) (row : List ℕ) → q ≢ gate_row x.id → RowSaid k q row → RowSaid gate_known q row
    gate_others q row n a = record {
      stage = a.stage;
      ports = a.ports;
      gates = λ i h e. rw (other_record x (k.gate i) x.id i (λ z. n (omega (arith, e, z)))) (a.gates i h e);
      meters = a.meters;
      meter_states = a.meter_states;
      groups = a.groups;
      schedulers = a.schedulers;
    }

    gate_own : RowSaid gate_known (gate_row x.id) (row_of_gate (s (gate_row x.id)) (is_set x.state) x.ipv (is_set x.invalid_receive_block) (is_set x.octets_block) x.base_time)
    gate_own = of_gate_lem x.id (λ i h e. let a = (all (gate_row x.id)).gates i h e in rw (own_record x (k.gate i) x.id i (omega (arith, ranged.ranges))) (record {
      words = ap (λ (row : List ℕ). row_of_gate row (is_set x.state) x.ipv (is_set x.invalid_receive_block) (is_set x.octets_block) x.base_time) a.words ∙ gate_renewed x (k.gate i) (length (k.entries i));
      room = a.room;
      ranged = ranged;
    }))

    pub gate_said : BankSaid gate_known (with_gate s x.id (is_set x.state) x.ipv (is_set x.invalid_receive_block) (is_set x.octets_block) x.base_time)
    gate_said = stored (RowSaid gate_known) s (gate_row x.id) _ (λ q n. gate_others q (s q) n (all q)) gate_own

  -- ---- kind 4, gate entry

  module _ (x : GateEntryRecord) (ranged : InRange (kind.GateEntry x)) where
    abbrev entry_known : Known
    entry_known = noted k (kind.GateEntry x)

    abbrev behind : ℕ → List GateEntryRecord
    behind i = k.entries i ++ (x ∷ [])

    entry_others : (q : ℕ) (row : List ℕ) → q ≢ gate_row x.gate → RowSaid k q row → RowSaid entry_known q row
    entry_others q row n a = record {
      stage = a.stage;
      ports = a.ports;
      gates = λ i h e. rw (ne_eqb x.gate i (λ z. n (omega (arith, e, z)))) (a.gates i h e);
      meters = a.meters;
      meter_states = a.meter_states;
      groups = a.groups;
      schedulers = a.schedulers;
    }

    module _ (room : entries s x.gate < entry_count) where
      entry_own : RowSaid entry_known (gate_row x.gate) (row_with (s (gate_row x.gate)) 6 (entries s x.gate + 1))
      entry_own = of_gate_lem x.gate (λ i h e. let a = (all (gate_row x.gate)).gates i h e in
          let same : x.gate ≡ i = omega (arith, ranged.ranges) in
          let count : entries s x.gate ≡ length (k.entries i) = ap (entries s) same ∙ entry_count_lem k s all i h in
          let more : entries s x.gate + 1 ≡ length (behind i) = omega (arith, count, length-append (k.entries i) (x ∷ [])) in
          rw (eq-eqb x.gate i same) (record {
            words = ap (λ (n : ℕ). row_with (s (gate_row x.gate)) 6 n) more ∙ ap (λ (row : List ℕ). row_with row 6 (length (behind i))) a.words ∙ entries_renewed (k.gate i) (length (k.entries i)) (length (behind i));
            room = omega (arith, more, room);
            ranged = a.ranged;
          }))

      pub entry_said : BankSaid entry_known (with_entries s x.gate (entries s x.gate + 1))
      entry_said = stored (RowSaid entry_known) s (gate_row x.gate) _ (λ q n. entry_others q (s q) n (all q)) entry_own

  -- ---- kind 5, meter

  module _ (x : MeterRecord) (ranged : InRange (kind.Meter x)) where
    abbrev meter_known : Known
    meter_known = noted k (kind.Meter x)

    meter_others : (q : ℕ) (row : List ℕ) → q ≢ meter_row x.id → q ≢ meter_state_row x.id → RowSaid k q row → RowSaid meter_known q row
    meter_others q row n m a = record {
      stage = a.stage;
      ports = a.ports;
      gates = a.gates;
      meters = λ i h e. rw (other_record x (k.meter i) x.id i (λ z. n (omega (arith, e, z)))) (a.meters i h e);
      meter_states = λ i h e. rw (other_record x (k.meter i) x.id i (λ z. m (omega (arith, e, z)))) (a.meter_states i h e);
      groups = a.groups;
      schedulers = a.schedulers;
    }

    meter_own : RowSaid meter_known (meter_row x.id) (row_of_meter (meter_said x))
    meter_own = of_meter_lem x.id (λ i h e. rw (own_record x (k.meter i) x.id i (omega (arith, ranged.ranges))) (record { words = refl; ranged = ranged }))

    meter_state_own : RowSaid meter_known (meter_state_row x.id) (row_of_meter_state (meter_said x))
    meter_state_own = of_meter_state x.id (λ i h e. rw (own_record x (k.meter i) x.id i (omega (arith, ranged.ranges))) (is_set_back (is_set x.red_block)))

    pub meter_said_lem : BankSaid meter_known (with_meter s x.id (meter_said x))
    meter_said_lem =
        stored (RowSaid meter_known) _ (meter_state_row x.id) _
        (stored (λ q row. q ≢ meter_state_row x.id → RowSaid meter_known q row) s (meter_row x.id) _ (λ q n m. meter_others q (s q) n m (all q)) (λ m. meter_own)) meter_state_own

  -- ---- kind 6, group

  module _ (x : GroupRecord) (ranged : InRange (kind.Group x)) where
    abbrev group_known : Known
    group_known = noted k (kind.Group x)

    group_others : (q : ℕ) (row : List ℕ) → q ≢ group_row x.id → RowSaid k q row → RowSaid group_known q row
    group_others q row n a = record {
      stage = a.stage;
      ports = a.ports;
      gates = a.gates;
      meters = a.meters;
      meter_states = a.meter_states;
      groups = λ i h e. rw (other_record x (k.group i) x.id i (λ z. n (omega (arith, e, z)))) (a.groups i h e);
      schedulers = a.schedulers;
    }

    group_own : RowSaid group_known (group_row x.id) (row_of_group (record { set = true; residence = x.residence; last = 0 }))
    group_own = of_group x.id (λ i h e. rw (own_record x (k.group i) x.id i (omega (arith, ranged.ranges))) (record { sets = refl; residences = refl }))

    pub group_said : BankSaid group_known (with_group s x.id (record { set = true; residence = x.residence; last = 0 }))
    group_said = stored (RowSaid group_known) s (group_row x.id) _ (λ q n. group_others q (s q) n (all q)) group_own

  -- ---- kind 7, scheduler

  module _ (x : SchedulerRecord) (ranged : InRange (kind.Scheduler x)) where
    abbrev scheduler_known : Known
    scheduler_known = noted k (kind.Scheduler x)

    scheduler_others : (q : ℕ) (row : List ℕ) → q ≢ scheduler_row x.id → RowSaid k q row → RowSaid scheduler_known q row
    scheduler_others q row n a = record {
      stage = a.stage;
      ports = a.ports;
      gates = a.gates;
      meters = a.meters;
      meter_states = a.meter_states;
      groups = a.groups;
      schedulers = λ i h e. rw (other_record x (k.scheduler i) x.id i (λ z. n (omega (arith, e, z)))) (a.schedulers i h e);
    }

    scheduler_own : RowSaid scheduler_known (scheduler_row x.id) (row_of_scheduler x.group (fresh_scheduler_of x.cir x.cbs))
    scheduler_own = of_scheduler_lem x.id (λ i h e. rw (own_record x (k.scheduler i) x.id i (omega (arith, ranged.ranges))) (record { sets = refl; groups = refl; rates = refl; bursts = refl; ranged = ranged }))

    pub scheduler_said : BankSaid scheduler_known (with_scheduler s x.id x.group (fresh_scheduler_of x.cir x.cbs))
    scheduler_said = stored (RowSaid scheduler_known) s (scheduler_row x.id) _ (λ q n. scheduler_others q (s q) n (all q)) scheduler_own

  -- ---- kind 8, start

  module _ (x : StartRecord) (ranged : InRange (kind.Start x)) where
    abbrev start_known : Known
    start_known = noted k (kind.Start x)

    start_own : RowSaid start_known component_row (row_with (s component_row) 0 x.classes)
    start_own = let a = (all component_row).stage refl in of_stage (record { starts = ap not (ne_eqb x.classes 0 (λ z. omega (arith, ranged.ranges, z))); counts = refl; clocks = a.clocks; overheads = a.overheads })

    start_others : (q : ℕ) (row : List ℕ) → q ≢ component_row → RowSaid k q row → RowSaid start_known q row
    start_others q row n a = record { stage = λ e. absurd (n e); ports = a.ports; gates = a.gates; meters = a.meters; meter_states = a.meter_states; groups = a.groups; schedulers = a.schedulers }

    pub start_said : BankSaid start_known (with_classes s x.classes)
    start_said = stored (RowSaid start_known) s component_row _ (λ q n. start_others q (s q) n (all q)) start_own
