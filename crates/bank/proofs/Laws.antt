-- The laws of the tables. For each way of writing: the view of what was written gives it back (`-same`), and what it does not write is
-- as before for every index (`-keeps-`). For each view: a store into any other row leaves it (`-frame`); that the rows of two
-- tables are never the same is plain from their numbers.
use Rattle.std.specs.Prelude.{◌≡◌, ℕ, zero, suc, ◌+◌, ◌*◌, ◌%◌, ◌^◌, ◌<◌, ◌≤◌, min, Bool, true, false, ◌≢◌, List, length, slice_index, slice_set, refl}
use Rattle.std.proofs.Common.{ap, ◌∙◌, arith}
use mir.Val.{bool_byte}
use Rattle.sizes.specs.Meaning.{entry_count, group_count, row_words}
use Rattle.gate.specs.declared.Gate.{Gate}
use Rattle.gate.specs.Meaning.{gate_holding}
use Rattle.meter.specs.declared.Meter.{Meter}
use Rattle.scheduler.specs.declared.Scheduler.{Scheduler}
use Rattle.bank.specs.declared.Port.{Port}
use Rattle.bank.specs.declared.Counter.{Counter}
use Rattle.bank.specs.declared.Group.{Group}
use Rattle.bank.specs.Meaning.{Rows, rows_in, with_row, component_row, port_row, counters_row, gate_row, gate_state_row, meter_row, meter_state_row, group_row, scheduler_row, word, row_with, with_word, is_set, component_in, component, with_classes, with_clock, with_overhead, port_in, row_of_port, port, with_port, with_discarded, counters_in, counters, counter_place, one_more, bump, with_oversize, gate_in, gate, gate_is_set, entries, row_of_gate, with_gate, with_entries, row_of_gate_state, with_gate_state, meter_in, meter, meter_is_set, row_of_meter, row_of_meter_state, with_meter, with_meter_state, group_in, row_of_group, group, with_group, with_group_last, scheduler_in, scheduler, scheduler_is_set, scheduler_group, burst, row_of_scheduler, with_scheduler, row_of_scheduler_state, with_scheduler_state}
use Rattle.bank.proofs.Rows.{row_same, row_other, row_kept, cell_put, cell_get}

-- ---- words

pub is_set_back : (b : Bool) → is_set (bool_byte b) ≡ b
is_set_back true = refl
is_set_back false = refl

-- a store of one word, as the code does it
row_stored : (ws : List ℕ) (r k v : ℕ) → k < row_words → slice_set (rows_in ws r) k v ≡ row_with (rows_in ws r) k v
row_stored ws r zero v h = refl
row_stored ws r (suc zero) v h = refl
row_stored ws r (suc (suc zero)) v h = refl
row_stored ws r (suc (suc (suc zero))) v h = refl
row_stored ws r (suc (suc (suc (suc zero)))) v h = refl
row_stored ws r (suc (suc (suc (suc (suc zero))))) v h = refl
row_stored ws r (suc (suc (suc (suc (suc (suc zero)))))) v h = refl
row_stored ws r (suc (suc (suc (suc (suc (suc (suc zero))))))) v h = refl
row_stored ws r (suc (suc (suc (suc (suc (suc (suc (suc k)))))))) v h = absurd (omega arith)

pub word_put : (ws : List ℕ) (r k v : ℕ) → k < row_words → r * row_words + row_words ≤ length ws → rows_in (slice_set ws (r * row_words + k) v) ≡ with_word (rows_in ws) r k v
word_put ws r k v in_row fits = cell_put ws r k v in_row fits ∙ ap (with_row (rows_in ws) r) (row_stored ws r k v in_row)

-- ---- the stage

pub classes_same : (s : Rows) (n : ℕ) → component (with_classes s n) ≡ record { classes = n; clock = (component s).clock; overhead = (component s).overhead }
classes_same s n = ap component_in (row_same s component_row (row_with (s component_row) 0 n))

pub clock_same : (s : Rows) (t : ℕ) → component (with_clock s t) ≡ record { classes = (component s).classes; clock = t; overhead = (component s).overhead }
clock_same s t = ap component_in (row_same s component_row (row_with (s component_row) 1 t))

pub overhead_same : (s : Rows) (n : ℕ) → component (with_overhead s n) ≡ record { classes = (component s).classes; clock = (component s).clock; overhead = n }
overhead_same s n = ap component_in (row_same s component_row (row_with (s component_row) 2 n))

pub component_frame : (s : Rows) (r : ℕ) (vs : List ℕ) → component_row ≢ r → component (with_row s r vs) ≡ component s
component_frame s r vs h = ap component_in (row_other s r vs component_row h)

-- ---- ports

pub port_same : (s : Rows) (i : ℕ) (x : Port) → x.overhead < 2 ^ 8 → port (with_port s i x) i ≡ x
port_same s i x h =
    let e : x.overhead % 2 ^ 8 ≡ x.overhead = omega arith in
    ap port_in (row_same s (port_row i) (row_of_port x))
    ∙ (λ k. record { set = is_set_back x.set k; overhead = e k; discarded = x.discarded })

pub discarded_same : (s : Rows) (i n : ℕ) → port (with_discarded s i n) i ≡ record { set = (port s i).set; overhead = (port s i).overhead; discarded = n }
discarded_same s i n = ap port_in (row_same s (port_row i) (row_with (s (port_row i)) 2 n))

pub discarded_keeps_overhead : (s : Rows) (i n j : ℕ) → (port (with_discarded s i n) j).overhead ≡ (port s j).overhead
discarded_keeps_overhead s i n j = row_kept (λ row. (port_in row).overhead) s (port_row i) (row_with (s (port_row i)) 2 n) refl (port_row j)

pub port_frame : (s : Rows) (i r : ℕ) (vs : List ℕ) → port_row i ≢ r → port (with_row s r vs) i ≡ port s i
port_frame s i r vs h = ap port_in (row_other s r vs (port_row i) h)

-- ---- counters

-- one more of one counter, and nothing else of any filter
pub bump_same : (s : Rows) (f : ℕ) (c : Counter) → bump s f c (counters_row f) ≡ row_with (s (counters_row f)) (counter_place c) (one_more (word (s (counters_row f)) (counter_place c)))
bump_same s f c = row_same s (counters_row f) _

pub oversize_same : (s : Rows) (f : ℕ) (flag : Bool) → (counters (with_oversize s f flag) f).oversize ≡ flag
oversize_same s f flag = ap (λ (row : List ℕ). (counters_in row).oversize) (row_same s (counters_row f) (row_with (s (counters_row f)) 6 (bool_byte flag))) ∙ is_set_back flag

-- as the code does it: the word is read, and one more is stored
pub count_put : (ws : List ℕ) (f k v : ℕ) (c : Counter) (t : Rows) → k ≡ counter_place c → k < row_words → v ≡ one_more (slice_index ws (counters_row f * row_words + k)) → t ≡ with_word (rows_in ws) (counters_row f) k v → t ≡ bump (rows_in ws) f c
count_put ws f k v c t ek in_row ev et =
    et
    ∙ ap (with_word (rows_in ws) (counters_row f) k) (ev ∙ ap one_more (cell_get ws (counters_row f) k in_row))
    ∙ ap (λ (n : ℕ). with_word (rows_in ws) (counters_row f) n (one_more (word (rows_in ws (counters_row f)) n))) ek

pub counters_frame : (s : Rows) (i r : ℕ) (vs : List ℕ) → counters_row i ≢ r → counters (with_row s r vs) i ≡ counters s i
counters_frame s i r vs h = ap counters_in (row_other s r vs (counters_row i) h)

-- ---- gates

-- a gate with the flags and the count of another
abbrev pub gate_with : Gate → Gate → Gate
gate_with g x = gate_holding g x.invalid_receive_flag x.octets_flag x.since x.spent

-- what a record sets up, with the flags and the count of g
abbrev pub gate_set_up : Gate → Bool → ℕ → Bool → Bool → ℕ → Gate
gate_set_up g opened ipv invalidReceiveBlock octetsBlock base = record {
  opened = opened;
  ipv = ipv;
  invalid_receive_block = invalidReceiveBlock;
  octets_block = octetsBlock;
  base = base;
  invalid_receive_flag = g.invalid_receive_flag;
  octets_flag = g.octets_flag;
  since = g.since;
  spent = g.spent;
}

pub gate_frame : (s : Rows) (i r : ℕ) (vs : List ℕ) → gate_row i ≢ r → gate_state_row i ≢ r → gate (with_row s r vs) i ≡ gate s i
gate_frame s i r vs h k = rw (row_other s r vs (gate_row i) h, row_other s r vs (gate_state_row i) k)

pub gate_is_set_frame : (s : Rows) (i r : ℕ) (vs : List ℕ) → gate_row i ≢ r → gate_is_set (with_row s r vs) i ≡ gate_is_set s i
gate_is_set_frame s i r vs h = ap (λ (row : List ℕ). is_set (word row 0)) (row_other s r vs (gate_row i) h)

pub entries_frame : (s : Rows) (i r : ℕ) (vs : List ℕ) → gate_row i ≢ r → entries (with_row s r vs) i ≡ entries s i
entries_frame s i r vs h = ap (λ (row : List ℕ). min (word row 6) entry_count) (row_other s r vs (gate_row i) h)

pub gate_state_same : (s : Rows) (i : ℕ) (x : Gate) → gate (with_gate_state s i x) i ≡ gate_with (gate s i) x
gate_state_same s i x =
    ap (λ (row : List ℕ). gate_in row (with_gate_state s i x (gate_state_row i))) (row_other s (gate_state_row i) (row_of_gate_state x) (gate_row i) (omega arith))
    ∙ ap (gate_in (s (gate_row i))) (row_same s (gate_state_row i) (row_of_gate_state x))
    ∙ (λ k. gate_holding (gate s i) (is_set_back x.invalid_receive_flag k) (is_set_back x.octets_flag k) x.since x.spent)

pub gate_same : (s : Rows) (i : ℕ) (opened : Bool) (ipv : ℕ) (invalidReceiveBlock octetsBlock : Bool) (base : ℕ) → ipv < 2 ^ 8 →
    gate (with_gate s i opened ipv invalidReceiveBlock octetsBlock base) i ≡ gate_set_up (gate s i) opened ipv invalidReceiveBlock octetsBlock base
gate_same s i opened ipv invalidReceiveBlock octetsBlock base h =
    let vs : List ℕ = row_of_gate (s (gate_row i)) opened ipv invalidReceiveBlock octetsBlock base in
    let e : ipv % 2 ^ 8 ≡ ipv = omega arith in
    ap (gate_in (with_row s (gate_row i) vs (gate_row i))) (row_other s (gate_row i) vs (gate_state_row i) (omega arith))
    ∙ ap (λ (row : List ℕ). gate_in row (s (gate_state_row i))) (row_same s (gate_row i) vs)
    ∙ (λ k. gate_set_up (gate s i) (is_set_back opened k) (e k) (is_set_back invalidReceiveBlock k) (is_set_back octetsBlock k) base)

pub gate_set_up_lem : (s : Rows) (i : ℕ) (opened : Bool) (ipv : ℕ) (invalidReceiveBlock octetsBlock : Bool) (base : ℕ) →
    gate_is_set (with_gate s i opened ipv invalidReceiveBlock octetsBlock base) i ≡ true
gate_set_up_lem s i opened ipv invalidReceiveBlock octetsBlock base =
    ap (λ (row : List ℕ). is_set (word row 0)) (row_same s (gate_row i) (row_of_gate (s (gate_row i)) opened ipv invalidReceiveBlock octetsBlock base))

pub gate_keeps_entries : (s : Rows) (i : ℕ) (opened : Bool) (ipv : ℕ) (invalidReceiveBlock octetsBlock : Bool) (base j : ℕ) →
    entries (with_gate s i opened ipv invalidReceiveBlock octetsBlock base) j ≡ entries s j
gate_keeps_entries s i opened ipv invalidReceiveBlock octetsBlock base j =
    row_kept (λ (row : List ℕ). min (word row 6) entry_count) s (gate_row i) (row_of_gate (s (gate_row i)) opened ipv invalidReceiveBlock octetsBlock base) refl (gate_row j)

pub entries_same : (s : Rows) (i n : ℕ) → entries (with_entries s i n) i ≡ min n entry_count
entries_same s i n = ap (λ (row : List ℕ). min (word row 6) entry_count) (row_same s (gate_row i) (row_with (s (gate_row i)) 6 n))

pub entries_keeps_set : (s : Rows) (i n j : ℕ) → gate_is_set (with_entries s i n) j ≡ gate_is_set s j
entries_keeps_set s i n j = row_kept (λ (row : List ℕ). is_set (word row 0)) s (gate_row i) (row_with (s (gate_row i)) 6 n) refl (gate_row j)

pub entries_keeps_gate : (s : Rows) (i n j : ℕ) → gate (with_entries s i n) j ≡ gate s j
entries_keeps_gate s i n j =
    let vs : List ℕ = row_with (s (gate_row i)) 6 n in
    ap (gate_in (with_row s (gate_row i) vs (gate_row j))) (row_other s (gate_row i) vs (gate_state_row j) (omega arith))
    ∙ row_kept (λ (row : List ℕ). gate_in row (s (gate_state_row j))) s (gate_row i) vs refl (gate_row j)

-- ---- meters

-- a meter with the buckets, the last fill, the red flag and the red block of another
abbrev pub meter_with : Meter → Meter → Meter
meter_with m x = record {
  cir = m.cir;
  cbs = m.cbs;
  eir = m.eir;
  ebs = m.ebs;
  coupling = m.coupling;
  colour_aware = m.colour_aware;
  drop_on_yellow = m.drop_on_yellow;
  red_block = x.red_block;
  red_flag = x.red_flag;
  committed = x.committed;
  excess = x.excess;
  last = x.last;
}

pub meter_frame : (s : Rows) (i r : ℕ) (vs : List ℕ) → meter_row i ≢ r → meter_state_row i ≢ r → meter (with_row s r vs) i ≡ meter s i
meter_frame s i r vs h k = rw (row_other s r vs (meter_row i) h, row_other s r vs (meter_state_row i) k)

pub meter_is_set_frame : (s : Rows) (i r : ℕ) (vs : List ℕ) → meter_row i ≢ r → meter_is_set (with_row s r vs) i ≡ meter_is_set s i
meter_is_set_frame s i r vs h = ap (λ (row : List ℕ). is_set (word row 0)) (row_other s r vs (meter_row i) h)

pub meter_state_same : (s : Rows) (i : ℕ) (x : Meter) → meter (with_meter_state s i x) i ≡ meter_with (meter s i) x
meter_state_same s i x =
    ap (λ (row : List ℕ). meter_in row (with_meter_state s i x (meter_state_row i))) (row_other s (meter_state_row i) (row_of_meter_state x) (meter_row i) (omega arith))
    ∙ ap (meter_in (s (meter_row i))) (row_same s (meter_state_row i) (row_of_meter_state x))
    ∙ (λ k. record {
      cir = (meter s i).cir;
      cbs = (meter s i).cbs;
      eir = (meter s i).eir;
      ebs = (meter s i).ebs;
      coupling = (meter s i).coupling;
      colour_aware = (meter s i).colour_aware;
      drop_on_yellow = (meter s i).drop_on_yellow;
      red_block = is_set_back x.red_block k;
      red_flag = is_set_back x.red_flag k;
      committed = x.committed;
      excess = x.excess;
      last = x.last;
    })

pub meter_same : (s : Rows) (i : ℕ) (x : Meter) → x.cbs.0 < 2 ^ 32 → x.ebs.0 < 2 ^ 32 → meter (with_meter s i x) i ≡ x
meter_same s i x h l =
    let t : Rows = with_row s (meter_row i) (row_of_meter x) in
    let cbs : x.cbs.0 % 2 ^ 32 ≡ x.cbs.0 = omega arith in
    let ebs : x.ebs.0 % 2 ^ 32 ≡ x.ebs.0 = omega arith in
    meter_state_same t i x
    ∙ ap (λ (row : List ℕ). meter_with (meter_in row (t (meter_state_row i))) x) (row_same s (meter_row i) (row_of_meter x))
    ∙ (λ k. record {
      cir = x.cir;
      cbs = record { 0 = cbs k };
      eir = x.eir;
      ebs = record { 0 = ebs k };
      coupling = is_set_back x.coupling k;
      colour_aware = is_set_back x.colour_aware k;
      drop_on_yellow = is_set_back x.drop_on_yellow k;
      red_block = x.red_block;
      red_flag = x.red_flag;
      committed = x.committed;
      excess = x.excess;
      last = x.last;
    })

pub meter_set_up : (s : Rows) (i : ℕ) (x : Meter) → meter_is_set (with_meter s i x) i ≡ true
meter_set_up s i x =
    meter_is_set_frame (with_row s (meter_row i) (row_of_meter x)) i (meter_state_row i) (row_of_meter_state x) (omega arith)
    ∙ ap (λ (row : List ℕ). is_set (word row 0)) (row_same s (meter_row i) (row_of_meter x))

-- ---- groups

pub group_same : (s : Rows) (i : ℕ) (x : Group) → group (with_group s i x) i ≡ x
group_same s i x =
    ap group_in (row_same s (group_row i) (row_of_group x))
    ∙ (λ k. record { set = is_set_back x.set k; residence = x.residence; last = x.last })

pub group_last_same : (s : Rows) (i t : ℕ) → group (with_group_last s i t) i ≡ record { set = (group s i).set; residence = (group s i).residence; last = t }
group_last_same s i t = ap group_in (row_same s (group_row i) (row_with (s (group_row i)) 2 t))

pub group_last_keeps_set : (s : Rows) (i t j : ℕ) → (group (with_group_last s i t) j).set ≡ (group s j).set
group_last_keeps_set s i t j = row_kept (λ (row : List ℕ). (group_in row).set) s (group_row i) (row_with (s (group_row i)) 2 t) refl (group_row j)

pub group_last_keeps_residence : (s : Rows) (i t j : ℕ) → (group (with_group_last s i t) j).residence ≡ (group s j).residence
group_last_keeps_residence s i t j =
    row_kept (λ (row : List ℕ). (group_in row).residence) s (group_row i) (row_with (s (group_row i)) 2 t) refl (group_row j)

pub group_frame : (s : Rows) (i r : ℕ) (vs : List ℕ) → group_row i ≢ r → group (with_row s r vs) i ≡ group s i
group_frame s i r vs h = ap group_in (row_other s r vs (group_row i) h)

-- ---- schedulers

pub scheduler_same : (s : Rows) (i g : ℕ) (x : Scheduler) → x.burst.0 < 2 ^ 32 → scheduler (with_scheduler s i g x) i ≡ x
scheduler_same s i g x h =
    let e : x.burst.0 % 2 ^ 32 ≡ x.burst.0 = omega arith in
    ap scheduler_in (row_same s (scheduler_row i) (row_of_scheduler g x))
    ∙ (λ k. record { rate = x.rate; burst = record { 0 = e k }; level = x.level; last = x.last })

pub scheduler_set_up : (s : Rows) (i g : ℕ) (x : Scheduler) → scheduler_is_set (with_scheduler s i g x) i ≡ true
scheduler_set_up s i g x = ap (λ (row : List ℕ). is_set (word row 0)) (row_same s (scheduler_row i) (row_of_scheduler g x))

pub scheduler_group_same : (s : Rows) (i g : ℕ) (x : Scheduler) → scheduler_group (with_scheduler s i g x) i ≡ g % group_count
scheduler_group_same s i g x = ap (λ (row : List ℕ). word row 1 % group_count) (row_same s (scheduler_row i) (row_of_scheduler g x))

pub scheduler_state_same : (s : Rows) (i : ℕ) (x : Scheduler) → scheduler (with_scheduler_state s i x) i
    ≡ record { rate = (scheduler s i).rate; burst = (scheduler s i).burst; level = x.level; last = x.last }
scheduler_state_same s i x = ap scheduler_in (row_same s (scheduler_row i) (row_of_scheduler_state (s (scheduler_row i)) x))

-- what a step leaves of any scheduler's row
module _ (s : Rows) (i : ℕ) (x : Scheduler) (j : ℕ) where
  pub scheduler_state_keeps_set : scheduler_is_set (with_scheduler_state s i x) j ≡ scheduler_is_set s j
  scheduler_state_keeps_set = row_kept (λ (row : List ℕ). is_set (word row 0)) s (scheduler_row i) (row_of_scheduler_state (s (scheduler_row i)) x) refl (scheduler_row j)

  pub scheduler_state_keeps_group : scheduler_group (with_scheduler_state s i x) j ≡ scheduler_group s j
  scheduler_state_keeps_group = row_kept (λ (row : List ℕ). word row 1 % group_count) s (scheduler_row i) (row_of_scheduler_state (s (scheduler_row i)) x) refl (scheduler_row j)

  pub scheduler_state_keeps_burst : burst (with_scheduler_state s i x) j ≡ burst s j
  scheduler_state_keeps_burst = row_kept (λ (row : List ℕ). (scheduler_in row).burst) s (scheduler_row i) (row_of_scheduler_state (s (scheduler_row i)) x) refl (scheduler_row j)

  pub scheduler_state_keeps_rate : (scheduler (with_scheduler_state s i x) j).rate ≡ (scheduler s j).rate
  scheduler_state_keeps_rate =
      row_kept (λ (row : List ℕ). (scheduler_in row).rate) s (scheduler_row i) (row_of_scheduler_state (s (scheduler_row i)) x) refl (scheduler_row j)

module _ (s : Rows) (i r : ℕ) (vs : List ℕ) (h : scheduler_row i ≢ r) where
  pub scheduler_frame : scheduler (with_row s r vs) i ≡ scheduler s i
  scheduler_frame = ap scheduler_in (row_other s r vs (scheduler_row i) h)

  pub scheduler_is_set_frame : scheduler_is_set (with_row s r vs) i ≡ scheduler_is_set s i
  scheduler_is_set_frame = ap (λ (row : List ℕ). is_set (word row 0)) (row_other s r vs (scheduler_row i) h)

  pub scheduler_group_frame : scheduler_group (with_row s r vs) i ≡ scheduler_group s i
  scheduler_group_frame = ap (λ (row : List ℕ). word row 1 % group_count) (row_other s r vs (scheduler_row i) h)

  pub burst_frame : burst (with_row s r vs) i ≡ burst s i
  burst_frame = ap (λ (row : List ℕ). (scheduler_in row).burst) (row_other s r vs (scheduler_row i) h)
