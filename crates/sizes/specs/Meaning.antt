-- The sizes of a bridge, each named once (01, Records): how many of each object there are, and what is kept of one.
use Rattle.std.specs.Prelude.{ℕ, ◌-◌, ◌*◌}

-- places of the filter table
abbrev pub filter_count : ℕ
filter_count = 64

abbrev pub port_count : ℕ
port_count = 8

abbrev pub gate_count : ℕ
gate_count = 16

-- the entries that the list of one gate may have
abbrev pub entry_count : ℕ
entry_count = 8

abbrev pub meter_count : ℕ
meter_count = 16

abbrev pub group_count : ℕ
group_count = 16

abbrev pub scheduler_count : ℕ
scheduler_count = 32

-- the words of a row of the bank
abbrev pub row_words : ℕ
row_words = 8

-- the octets of an entry of a gate list: the body of its record
abbrev pub entry_octets : ℕ
entry_octets = 11

-- the octets that are kept for the list of one gate, and for all of them
abbrev pub list_octets : ℕ
list_octets = entry_count * entry_octets

abbrev pub lists_octets : ℕ
lists_octets = gate_count * list_octets

-- the last identifier of each object
abbrev pub last_filter : ℕ
last_filter = filter_count - 1

abbrev pub last_port : ℕ
last_port = port_count - 1

abbrev pub last_gate : ℕ
last_gate = gate_count - 1

abbrev pub last_meter : ℕ
last_meter = meter_count - 1

abbrev pub last_group : ℕ
last_group = group_count - 1

abbrev pub last_scheduler : ℕ
last_scheduler = scheduler_count - 1
