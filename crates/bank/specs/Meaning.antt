-- The bank of words: the rows of eight words that it is read as, which row is whose, and which word of a row is what.
-- An index is taken modulo the size of its table. A word read as a flag stands where it is not 0; one read into a narrower number is
-- taken modulo its width. All zeros is a fresh bridge: nothing set up, not started, every counter 0, every flag down.
use Rattle.std.specs.Prelude.{ℕ, zero, suc, ◌+◌, ◌*◌, ◌%◌, ◌^◌, min, Bool, cond, not, List, [], ◌∷◌, ◌==◌, slice_index, slice_set}
use mir.Val.{bool_byte}
use Rattle.sizes.specs.Meaning.{filter_count, port_count, gate_count, entry_count, meter_count, group_count, scheduler_count, row_words}
use Rattle.bucket.specs.declared.Rate.{Rate}
use Rattle.bucket.specs.declared.Octets.{Octets}
use Rattle.gate.specs.declared.Gate.{Gate}
use Rattle.meter.specs.declared.Meter.{Meter}
use Rattle.scheduler.specs.declared.Scheduler.{Scheduler}
use Rattle.bank.specs.declared.Bank.{Bank}
use Rattle.bank.specs.declared.Component.{Component}
use Rattle.bank.specs.declared.Port.{Port}
use Rattle.bank.specs.declared.Counters.{Counters}
use Rattle.bank.specs.declared.Counter.{Counter}
use Rattle.bank.specs.declared.Counter.TheVariants.{Matching, PassingSdu, NotPassingSdu, Passing, NotPassing, Red}
use Rattle.bank.specs.declared.Group.{Group}

-- the n words a + k, a + k + 1, ..
abbrev pub load : List ℕ → ℕ → ℕ → ℕ → List ℕ
load ws a k zero = []
load ws a k (suc n) = slice_index ws (a + k) ∷ load ws a (suc k) n

-- vs stored at a + k, a + k + 1, ..: on a list that is written out, the stores of straight-line code
abbrev pub store : List ℕ → ℕ → ℕ → List ℕ → List ℕ
store ws a k [] = ws
store ws a k (v ∷ vs) = store (slice_set ws (a + k) v) a (suc k) vs

-- the rows of a state, `row_words` words each, all 0 past the last
abbrev pub Rows : Type 0
Rows = ℕ → List ℕ

abbrev pub rows_in : List ℕ → Rows
rows_in ws r = load ws (r * row_words) 0 row_words

abbrev pub rows_of : Bank → Rows
rows_of b = rows_in b.words

-- row r is vs, and every other row is as it was
unfoldable pub with_row : Rows → ℕ → List ℕ → Rows
with_row s r vs q = cond (q == r) vs (s q)

-- ---- which row is whose. The counters' table is the last one: more filters shift nothing

abbrev pub component_row : ℕ
component_row = 0

-- the first row of each table
abbrev pub ports_from : ℕ
ports_from = component_row + 1

abbrev pub gates_from : ℕ
gates_from = ports_from + port_count

abbrev pub gate_states_from : ℕ
gate_states_from = gates_from + gate_count

abbrev pub meters_from : ℕ
meters_from = gate_states_from + gate_count

abbrev pub meter_states_from : ℕ
meter_states_from = meters_from + meter_count

abbrev pub groups_from : ℕ
groups_from = meter_states_from + meter_count

abbrev pub schedulers_from : ℕ
schedulers_from = groups_from + group_count

abbrev pub counters_from : ℕ
counters_from = schedulers_from + scheduler_count

-- all rows, and all words
abbrev pub bank_rows : ℕ
bank_rows = counters_from + filter_count

abbrev pub bank_words : ℕ
bank_words = bank_rows * row_words

abbrev pub port_row : ℕ → ℕ
port_row i = ports_from + i % port_count

abbrev pub gate_row : ℕ → ℕ
gate_row i = gates_from + i % gate_count

abbrev pub gate_state_row : ℕ → ℕ
gate_state_row i = gate_states_from + i % gate_count

abbrev pub meter_row : ℕ → ℕ
meter_row i = meters_from + i % meter_count

abbrev pub meter_state_row : ℕ → ℕ
meter_state_row i = meter_states_from + i % meter_count

abbrev pub group_row : ℕ → ℕ
group_row i = groups_from + i % group_count

abbrev pub scheduler_row : ℕ → ℕ
scheduler_row i = schedulers_from + i % scheduler_count

abbrev pub counters_row : ℕ → ℕ
counters_row i = counters_from + i % filter_count

-- ---- words

-- the k-th word of a row
abbrev pub word : List ℕ → ℕ → ℕ
word row k = slice_index row k

-- the row with `v` for its k-th word
abbrev pub word_with : List ℕ → ℕ → ℕ → ℕ → ℕ
word_with row k v i = cond (i == k) v (word row i)

abbrev pub row_with : List ℕ → ℕ → ℕ → List ℕ
row_with row k v =
    word_with row k v 0 ∷ word_with row k v 1 ∷ word_with row k v 2 ∷ word_with row k v 3 ∷ word_with row k v 4 ∷ word_with row k v 5 ∷ word_with row k v 6 ∷ word_with row k v 7 ∷ []

-- the k-th word of row r is v, and every other word is as it was
abbrev pub with_word : Rows → ℕ → ℕ → ℕ → Rows
with_word s r k v = with_row s r (row_with (s r) k v)

abbrev pub is_set : ℕ → Bool
is_set w = not (w == 0)

abbrev pub octets_in : ℕ → Octets
octets_in w = record { 0 = w % 2 ^ 32 }

abbrev pub rate_in : ℕ → Rate
rate_in w = record { 0 = w }

-- ---- the stage: classes (0: not started), the time of the last taken arrival, the largest port overhead

abbrev pub component_in : List ℕ → Component
component_in row = record { classes = word row 0; clock = word row 1; overhead = word row 2 }

abbrev pub component : Rows → Component
component s = component_in (s component_row)

abbrev pub with_classes : Rows → ℕ → Rows
with_classes s n = with_word s component_row 0 n

abbrev pub with_clock : Rows → ℕ → Rows
with_clock s t = with_word s component_row 1 t

abbrev pub with_overhead : Rows → ℕ → Rows
with_overhead s n = with_word s component_row 2 n

-- ---- ports: set, overhead, discarded

abbrev pub port_in : List ℕ → Port
port_in row = record { set = is_set (word row 0); overhead = word row 1 % 2 ^ 8; discarded = word row 2 }

abbrev pub row_of_port : Port → List ℕ
row_of_port x = bool_byte x.set ∷ x.overhead ∷ x.discarded ∷ 0 ∷ 0 ∷ 0 ∷ 0 ∷ 0 ∷ []

abbrev pub port : Rows → ℕ → Port
port s i = port_in (s (port_row i))

abbrev pub with_port : Rows → ℕ → Port → Rows
with_port s i x = with_row s (port_row i) (row_of_port x)

abbrev pub with_discarded : Rows → ℕ → ℕ → Rows
with_discarded s i n = with_word s (port_row i) 2 n

-- ---- counters of a filter: matching, passing SDU, not passing SDU, passing, not passing, red, the oversize flag

abbrev pub counters_in : List ℕ → Counters
counters_in row = record {
  matching = word row 0;
  passing_sdu = word row 1;
  not_passing_sdu = word row 2;
  passing = word row 3;
  not_passing = word row 4;
  red = word row 5;
  oversize = is_set (word row 6);
}

abbrev pub counters : Rows → ℕ → Counters
counters s i = counters_in (s (counters_row i))

-- the word of each counter
abbrev pub counter_place : Counter → ℕ
counter_place Matching = 0
counter_place PassingSdu = 1
counter_place NotPassingSdu = 2
counter_place Passing = 3
counter_place NotPassing = 4
counter_place Red = 5

-- "After 2^64 - 1 a counter goes to 0"
abbrev pub one_more : ℕ → ℕ
one_more n = (n + 1) % 2 ^ 64

-- one more of what `c` counts of filter f
abbrev pub bump : Rows → ℕ → Counter → Rows
bump s f c = with_word s (counters_row f) (counter_place c) (one_more (word (s (counters_row f)) (counter_place c)))

abbrev pub with_oversize : Rows → ℕ → Bool → Rows
with_oversize s f flag = with_word s (counters_row f) 6 (bool_byte flag)

-- ---- gates: set, opened, IPV, the blocks, base time, entries; in the state's row the flags, since, spent

abbrev pub gate_in : List ℕ → List ℕ → Gate
gate_in row state = record {
  opened = is_set (word row 1);
  ipv = word row 2 % 2 ^ 8;
  invalid_receive_block = is_set (word row 3);
  octets_block = is_set (word row 4);
  base = word row 5;
  invalid_receive_flag = is_set (word state 0);
  octets_flag = is_set (word state 1);
  since = word state 2;
  spent = word state 3;
}

abbrev pub gate : Rows → ℕ → Gate
gate s i = gate_in (s (gate_row i)) (s (gate_state_row i))

abbrev pub gate_is_set : Rows → ℕ → Bool
gate_is_set s i = is_set (word (s (gate_row i)) 0)

-- how many entries the gate's list has: a full list at most, whatever the word says
abbrev pub entries : Rows → ℕ → ℕ
entries s i = min (word (s (gate_row i)) 6) entry_count

-- the gate set up by its record (01, kind 3); entries may have come before it, and their count stays
abbrev pub row_of_gate : List ℕ → Bool → ℕ → Bool → Bool → ℕ → List ℕ
row_of_gate row opened ipv invalidReceiveBlock octetsBlock base =
    1 ∷ bool_byte opened ∷ ipv ∷ bool_byte invalidReceiveBlock ∷ bool_byte octetsBlock ∷ base ∷ word row 6 ∷ 0 ∷ []

abbrev pub with_gate : Rows → ℕ → Bool → ℕ → Bool → Bool → ℕ → Rows
with_gate s i opened ipv invalidReceiveBlock octetsBlock base =
    with_row s (gate_row i) (row_of_gate (s (gate_row i)) opened ipv invalidReceiveBlock octetsBlock base)

abbrev pub with_entries : Rows → ℕ → ℕ → Rows
with_entries s i n = with_word s (gate_row i) 6 n

abbrev pub row_of_gate_state : Gate → List ℕ
row_of_gate_state x = bool_byte x.invalid_receive_flag ∷ bool_byte x.octets_flag ∷ x.since ∷ x.spent ∷ 0 ∷ 0 ∷ 0 ∷ 0 ∷ []

abbrev pub with_gate_state : Rows → ℕ → Gate → Rows
with_gate_state s i x = with_row s (gate_state_row i) (row_of_gate_state x)

-- ---- meters: set, CIR, CBS, EIR, EBS, coupling, colour-aware, drop on yellow; in the state's row the buckets, last, the red flag, red block

abbrev pub meter_in : List ℕ → List ℕ → Meter
meter_in row state = record {
  cir = rate_in (word row 1);
  cbs = octets_in (word row 2);
  eir = rate_in (word row 3);
  ebs = octets_in (word row 4);
  coupling = is_set (word row 5);
  colour_aware = is_set (word row 6);
  drop_on_yellow = is_set (word row 7);
  red_block = is_set (word state 4);
  red_flag = is_set (word state 3);
  committed = word state 0;
  excess = word state 1;
  last = word state 2;
}

abbrev pub meter : Rows → ℕ → Meter
meter s i = meter_in (s (meter_row i)) (s (meter_state_row i))

abbrev pub meter_is_set : Rows → ℕ → Bool
meter_is_set s i = is_set (word (s (meter_row i)) 0)

abbrev pub row_of_meter : Meter → List ℕ
row_of_meter x =
    1 ∷ x.cir.0 ∷ x.cbs.0 ∷ x.eir.0 ∷ x.ebs.0 ∷ bool_byte x.coupling ∷ bool_byte x.colour_aware ∷ bool_byte x.drop_on_yellow ∷ []

abbrev pub row_of_meter_state : Meter → List ℕ
row_of_meter_state x = x.committed ∷ x.excess ∷ x.last ∷ bool_byte x.red_flag ∷ bool_byte x.red_block ∷ 0 ∷ 0 ∷ 0 ∷ []

abbrev pub with_meter_state : Rows → ℕ → Meter → Rows
with_meter_state s i x = with_row s (meter_state_row i) (row_of_meter_state x)

abbrev pub with_meter : Rows → ℕ → Meter → Rows
with_meter s i x = with_meter_state (with_row s (meter_row i) (row_of_meter x)) i x

-- ---- groups: set, residence, last

abbrev pub group_in : List ℕ → Group
group_in row = record { set = is_set (word row 0); residence = word row 1; last = word row 2 }

abbrev pub row_of_group : Group → List ℕ
row_of_group x = bool_byte x.set ∷ x.residence ∷ x.last ∷ 0 ∷ 0 ∷ 0 ∷ 0 ∷ 0 ∷ []

abbrev pub group : Rows → ℕ → Group
group s i = group_in (s (group_row i))

abbrev pub with_group : Rows → ℕ → Group → Rows
with_group s i x = with_row s (group_row i) (row_of_group x)

abbrev pub with_group_last : Rows → ℕ → ℕ → Rows
with_group_last s i t = with_word s (group_row i) 2 t

-- ---- schedulers: set, group, CIR, CBS, level, last

abbrev pub scheduler_in : List ℕ → Scheduler
scheduler_in row = record { rate = rate_in (word row 2); burst = octets_in (word row 3); level = word row 4; last = word row 5 }

abbrev pub scheduler : Rows → ℕ → Scheduler
scheduler s i = scheduler_in (s (scheduler_row i))

abbrev pub scheduler_is_set : Rows → ℕ → Bool
scheduler_is_set s i = is_set (word (s (scheduler_row i)) 0)

abbrev pub scheduler_group : Rows → ℕ → ℕ
scheduler_group s i = word (s (scheduler_row i)) 1 % group_count

abbrev pub burst : Rows → ℕ → Octets
burst s i = (scheduler s i).burst

abbrev pub row_of_scheduler : ℕ → Scheduler → List ℕ
row_of_scheduler g x = 1 ∷ g ∷ x.rate.0 ∷ x.burst.0 ∷ x.level ∷ x.last ∷ 0 ∷ 0 ∷ []

abbrev pub with_scheduler : Rows → ℕ → ℕ → Scheduler → Rows
with_scheduler s i g x = with_row s (scheduler_row i) (row_of_scheduler g x)

-- a step writes the level and the last time
abbrev pub row_of_scheduler_state : List ℕ → Scheduler → List ℕ
row_of_scheduler_state row x = row_with (row_with row 4 x.level) 5 x.last

abbrev pub with_scheduler_state : Rows → ℕ → Scheduler → Rows
with_scheduler_state s i x = with_row s (scheduler_row i) (row_of_scheduler_state (s (scheduler_row i)) x)
