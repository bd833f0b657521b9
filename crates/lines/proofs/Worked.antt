-- The lines that docs/TEXT.md shows, computed from the table.
use Rattle.std.specs.Prelude.{◌++◌, ◌≡◌, refl}
use Rattle.record.specs.declared.Record.TheVariants.{Port, Filter, Gate, GateEntry, Meter, Group, Scheduler, Start, Arrival, Clear}
use Rattle.text.specs.Meaning.{ascii, digits_in, digits_of}
use Rattle.lines.specs.Meaning.{line_of}

port_shown : line_of (Port (record { port = 0; overhead = 12 })) ≡ ascii "port port=0 overhead=12\n"
unfolding line_of digits_in
port_shown = refl

filter_shown : line_of (Filter (record { id = 0; any_handle = 0; handle = 7; priority = 8; gate = 0; max_sdu = 500; oversize_block = 1; meter = 255; scheduler = 0 })) ≡ ascii "filter id=0 handle=7 priority=any gate=0 max-sdu=500 oversize-block=1 meter=none scheduler=0\n"
unfolding line_of digits_in
filter_shown = refl

any_filter_shown : line_of (Filter (record { id = 1; any_handle = 1; handle = 0; priority = 3; gate = 0; max_sdu = 0; oversize_block = 0; meter = 2; scheduler = 255 })) ≡ ascii "filter id=1 handle=any priority=3 gate=0 max-sdu=none oversize-block=0 meter=2 scheduler=none\n"
unfolding line_of digits_in
any_filter_shown = refl

gate_shown : line_of (Gate (record { id = 0; state = 1; ipv = 8; invalid_receive_block = 0; octets_block = 0; base_time = 0 })) ≡ ascii "gate id=0 state=1 ipv=null invalid-receive-block=0 octets-block=0 base-time=0\n"
unfolding line_of digits_in
gate_shown = refl

entry_shown : line_of (GateEntry (record { gate = 0; state = 0; ipv = 3; interval = 1000; octet_maximum = 4_294_967_295 })) ≡ ascii "gate-entry gate=0 state=0 ipv=3 interval=1000 octet-maximum=none\n"
unfolding line_of digits_in
entry_shown = refl

meter_shown : line_of (Meter (record { id = 0; cir = record { 0 = 1_000_000_000 }; cbs = record { 0 = 1000 }; eir = record { 0 = 0 }; ebs = record { 0 = 500 }; coupling = 0; colour_aware = 0; drop_on_yellow = 0; red_block = 0 })) ≡ ascii "meter id=0 cir=" ++ (digits_of 1_000_000_000 ++ ascii " cbs=1000 eir=0 ebs=500 coupling=0 colour-aware=0 drop-on-yellow=0 red-block=0\n")
unfolding line_of digits_in
meter_shown = refl

group_shown : line_of (Group (record { id = 0; residence = 10_000 })) ≡ ascii "group id=0 residence=10000\n"
unfolding line_of digits_in
group_shown = refl

scheduler_shown : line_of (Scheduler (record { id = 0; group = 0; cir = record { 0 = 1_000_000_000 }; cbs = record { 0 = 1000 } })) ≡ ascii "scheduler id=0 group=0 cir=" ++ (digits_of 1_000_000_000 ++ ascii " cbs=1000\n")
unfolding line_of digits_in
scheduler_shown = refl

start_shown : line_of (Start (record { classes = 8 })) ≡ ascii "start classes=8\n"
unfolding line_of digits_in
start_shown = refl

arrival_shown : line_of (Arrival (record { port = 0; time = 0; handle = 7; priority = 3; drop_eligible = 0; msdu = 500 })) ≡ ascii "arrival port=0 time=0 handle=7 priority=3 drop-eligible=0 msdu=500\n"
unfolding line_of digits_in
arrival_shown = refl

clear_shown : line_of (Clear (record { flag = 1; id = 0 })) ≡ ascii "clear flag=1 id=0\n"
unfolding line_of digits_in
clear_shown = refl
