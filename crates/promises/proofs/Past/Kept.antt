-- Over every history from fresh: what is kept is what the records taken say.
use Rattle.std.specs.Prelude.{ℕ, zero, suc, ◌*◌, ◌%◌, ◌<◌, List, [], ◌∷◌, ◌++◌, map, ◌≡◌, refl, length, get_or, take, drop}
use Rattle.std.proofs.Common.{append-nil, append_assoc, ap, ◌∙◌, arith}
use Rattle.std.proofs.Math.Option.{some}
use Rattle.sizes.specs.Meaning.{filter_count, port_count, gate_count, meter_count, group_count, scheduler_count, entry_octets, list_octets}
use Rattle.gate.specs.Meaning.{entries_from, entries_of}
use Rattle.meter.specs.Meaning.{meter_holding}
use Rattle.record.specs.declared.GateRecord.{GateRecord}
use Rattle.record.specs.declared.MeterRecord.{MeterRecord}
use Rattle.record.specs.declared.SchedulerRecord.{SchedulerRecord}
use Rattle.bank.specs.Meaning.{is_set, component, component_row, port, gate_row, gate, gate_is_set, meter, meter_is_set, group, scheduler, scheduler_is_set, scheduler_group, burst}
use Rattle.bank.proofs.Laws.{gate_set_up}
use Rattle.filter.specs.Meaning.{no_row, is_filter_of, row_of}
use Rattle.path.specs.Meaning.{list_of}
use Rattle.stage.specs.Meaning.{Bridge, filter_of, started_of, take_of}
use Rattle.promises.specs.Meaning.{Call, run_of, repeated, fresh, event_of}
use Rattle.promises.specs.Past.Meaning.{Past, added_by, past_of, last_in, all_in, of_it, is_there, Known, known_of, started_in, classes_in, clock_in, overhead_in, largest_of, largest_in, residence_in, group_named, burst_in, entry_of}
use Rattle.promises.proofs.Past.Entries.{list_entries}
use Rattle.promises.proofs.Past.Agrees.{meter_said, Agrees}
use Rattle.promises.proofs.Past.Calls.{call_agrees}
use Rattle.promises.proofs.Past.Settings.{gate_is, meter_is, scheduler_is_lem}
use Rattle.promises.proofs.Past.Words.{filter_set, port_set, port_overhead, gate_set, entry_count_lem, meter_set, group_set, group_residence, scheduler_set, scheduler_group_lem, scheduler_burst}

-- ---- the fresh bridge agrees with the empty past, and every call keeps the agreement

get_d_repeated : {A : Type 0} (x : A) (n i : ℕ) → get_or (repeated x n) i x ≡ x
get_d_repeated x zero i = refl
get_d_repeated x (suc n) zero = refl
get_d_repeated x (suc n) (suc i) = get_d_repeated x n i

fresh_agrees : Agrees (known_of []) fresh
unfolding fresh last_in all_in largest_of entries_from
fresh_agrees = record {
  places = refl;
  octets = refl;
  bank = λ q. record {
    stage = λ e. record { starts = refl; counts = refl; clocks = refl; overheads = refl };
    ports = λ i h e. record { sets = refl; overheads = refl; ranged = tt };
    gates = λ i h e. record { words = refl; room = omega arith; ranged = tt };
    meters = λ i h e. record { words = refl; ranged = tt };
    meter_states = λ i h e. refl;
    groups = λ i h e. record { sets = refl; residences = refl };
    schedulers = λ i h e. record { sets = refl; groups = refl; rates = refl; bursts = refl; ranged = tt };
  };
  filters = λ i. record { is = get_d_repeated no_row filter_count i; filters = tt };
  lists = λ i h. refl;
  complete = λ e i h. tt;
}

run_agrees : (past : Past) (b : Bridge) (cs : List Call) → Agrees (known_of past) b → Agrees (known_of (past ++ past_of b cs)) (run_of b cs)
unfolding run_of past_of
run_agrees past b [] a = rw (append-nil past) a
run_agrees past b (c ∷ cs) a =
    rw (← append_assoc past (added_by (event_of b c)) (past_of (take_of b c).after cs)) (run_agrees (past ++ added_by (event_of b c)) (take_of b c).after cs (call_agrees past b a c))

module _ (cs : List Call) where
  -- the bridge after a history from fresh, and what the records say that it took
  abbrev pub after : Bridge
  after = run_of fresh cs

  abbrev pub known : Known
  known = known_of (past_of fresh cs)

  pub run_agrees_fresh : Agrees known after
  run_agrees_fresh = run_agrees [] fresh cs fresh_agrees

  -- ---- the stage

  -- a start was taken
  pub kept_start : started_of after.bank ≡ started_in known
  kept_start = ((run_agrees_fresh.bank component_row).stage refl).starts

  -- the traffic classes are those that it says, by which a frame's class is found in the table
  pub kept_classes : (component after.bank).classes ≡ classes_in known
  kept_classes = ((run_agrees_fresh.bank component_row).stage refl).counts

  -- the clock is the time of the last taken arrival
  pub kept_clock : (component after.bank).clock ≡ clock_in known
  kept_clock = ((run_agrees_fresh.bank component_row).stage refl).clocks

  -- the largest overhead is the maximum over the ports
  pub kept_overhead : (component after.bank).overhead ≡ largest_in known
  kept_overhead = ((run_agrees_fresh.bank component_row).stage refl).overheads

  -- ---- an object is set up exactly if its record was taken, and is what the record says

  module _ (i : ℕ) (h : i < port_count) where
    pub kept_port : (port after.bank i).set ≡ is_there (known.port i)
    kept_port = port_set known after.bank run_agrees_fresh.bank i h

    pub kept_port_overhead : (port after.bank i).overhead ≡ overhead_in known i
    kept_port_overhead = port_overhead known after.bank run_agrees_fresh.bank i h

  -- the place of a filter holds its record's row, and is empty where there is none
  pub kept_row : (i : ℕ) → row_of after.table i ≡ of_it filter_of no_row (known.filter i)
  kept_row i = (run_agrees_fresh.filters i).is

  pub kept_filter : (i : ℕ) → is_filter_of (row_of after.table i) ≡ is_there (known.filter i)
  kept_filter i = filter_set (known.filter i) (row_of after.table i) (run_agrees_fresh.filters i)

  module _ (i : ℕ) (h : i < gate_count) where
    pub kept_gate : gate_is_set after.bank i ≡ is_there (known.gate i)
    kept_gate = gate_set known after.bank run_agrees_fresh.bank i h

    pub kept_gate_settings : (r : GateRecord) → known.gate i ≡ some r
        → gate after.bank i ≡ gate_set_up (gate after.bank i) (is_set r.state) r.ipv (is_set r.invalid_receive_block) (is_set r.octets_block) r.base_time
    kept_gate_settings = gate_is known after.bank run_agrees_fresh.bank i h

    -- a gate's entries are those of its taken records, in order
    pub kept_entries : entries_of (list_of after.bank after.lists i) ≡ map entry_of (known.entries i)
    kept_entries =
        let a = run_agrees_fresh in
        let e : i % gate_count ≡ i = omega arith in
        ap (λ (n : ℕ). entries_of (take (n * entry_octets) (drop (i % gate_count * list_octets) after.lists))) (entry_count_lem known after.bank a.bank i h)
        ∙ ap (λ (j : ℕ). entries_of (take (length (known.entries i) * entry_octets) (drop (j * list_octets) after.lists))) e
        ∙ list_entries after.lists i (length (known.entries i)) a.octets h ((a.bank (gate_row i)).gates i h refl).room
        ∙ a.lists i h

  module _ (i : ℕ) (h : i < meter_count) where
    pub kept_meter : meter_is_set after.bank i ≡ is_there (known.meter i)
    kept_meter = meter_set known after.bank run_agrees_fresh.bank i h

    pub kept_meter_settings : (r : MeterRecord) → known.meter i ≡ some r
        → let m = meter after.bank i in
        m ≡ meter_holding (meter_said r) m.committed m.excess m.last m.red_flag
    kept_meter_settings = meter_is known after.bank run_agrees_fresh.bank i h

  module _ (i : ℕ) (h : i < group_count) where
    pub kept_group : (group after.bank i).set ≡ is_there (known.group i)
    kept_group = group_set known after.bank run_agrees_fresh.bank i h

    pub kept_residence : (group after.bank i).residence ≡ residence_in known i
    kept_residence = group_residence known after.bank run_agrees_fresh.bank i h

  module _ (i : ℕ) (h : i < scheduler_count) where
    pub kept_scheduler : scheduler_is_set after.bank i ≡ is_there (known.scheduler i)
    kept_scheduler = scheduler_set known after.bank run_agrees_fresh.bank i h

    pub kept_scheduler_group : scheduler_group after.bank i ≡ group_named known i
    kept_scheduler_group = scheduler_group_lem known after.bank run_agrees_fresh.bank i h

    pub kept_scheduler_settings : (r : SchedulerRecord) → known.scheduler i ≡ some r
        → let x = scheduler after.bank i in
        x ≡ record { rate = r.cir; burst = r.cbs; level = x.level; last = x.last }
    kept_scheduler_settings = scheduler_is_lem known after.bank run_agrees_fresh.bank i h

    pub kept_burst : (burst after.bank i).0 ≡ burst_in known i
    kept_burst = scheduler_burst known after.bank run_agrees_fresh.bank i h
