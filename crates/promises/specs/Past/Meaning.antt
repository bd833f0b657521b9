-- The records that a history has taken, and document 01's table of refusals in their terms alone: which objects have a record, what that record says,
-- and so when each number is given. No word of the bank, no row of the filter table and no octet of a gate list is looked at.
use Rattle.std.specs.Prelude.{ℕ, zero, suc, max, Bool, true, false, not, cond, ◌&&◌, ◌||◌, List, [], ◌∷◌, ◌++◌, eqb, leb, ltb, length, get_or, Ok, Err}
use Rattle.std.proofs.Math.Option.{Option, none, some}
use Rattle.sizes.specs.Meaning.{filter_count, port_count, gate_count, entry_count, scheduler_count}
use Rattle.frame.specs.Meaning.{length_of}
use Rattle.gate.specs.declared.Entry.{Entry}
use Rattle.record.specs.declared.Record.{Record}
use Rattle.record.specs.declared.PortRecord.{PortRecord}
use Rattle.record.specs.declared.FilterRecord.{FilterRecord}
use Rattle.record.specs.declared.GateRecord.{GateRecord}
use Rattle.record.specs.declared.GateEntryRecord.{GateEntryRecord}
use Rattle.record.specs.declared.MeterRecord.{MeterRecord}
use Rattle.record.specs.declared.GroupRecord.{GroupRecord}
use Rattle.record.specs.declared.SchedulerRecord.{SchedulerRecord}
use Rattle.record.specs.declared.StartRecord.{StartRecord}
use Rattle.record.specs.declared.ArrivalRecord.{ArrivalRecord}
use Rattle.record.specs.declared.ClearRecord.{ClearRecord}
use Rattle.record.specs.Meaning.{Reading}
use Rattle.record.specs.declared.Kind.{Kind}
use Rattle.record.specs.Meaning.{kind_of, length_in, in_turn_in, of_entry, of_start, of_arrival, of_clear}
use Rattle.verdict.specs.Meaning.{Verdict}
use Rattle.verdict.specs.Meaning.{Refused, Taken, Passed, Dropped}
use Rattle.setup.specs.Meaning.{some_of}
use Rattle.stage.specs.Meaning.{Bridge, take_of}
use Rattle.promises.specs.Meaning.{Call, Event, event_of}
use Rattle.promises.specs.Refusals.Meaning.{Try, try, empty_of, unknown_of, out_of_range_of, of_record}
use Rattle.record.specs.declared.Record.TheVariants as kind

-- ---- the past of a history: the records that it has taken, the first first

abbrev pub Past : Type 0
Past = List Record

abbrev pub record_read : Reading → Past
record_read (Err why) = []
record_read (Ok (r, used)) = r ∷ []

-- a call adds the record that it read where its verdict is no refusal, and nothing where it is one
abbrev pub record_added : Verdict → Reading → Past
record_added (Refused why) rd = []
record_added Taken rd = record_read rd
record_added (Passed p) rd = record_read rd
record_added (Dropped d) rd = record_read rd

abbrev pub added_by : Event → Past
added_by e = record_added e.verdict e.reading

unfoldable pub past_of : Bridge → List Call → Past
past_of b [] = []
past_of b (c ∷ cs) = added_by (event_of b c) ++ past_of (take_of b c).after cs

-- ---- what is sought in a past

abbrev pub or_else : {A : Type 0} → Option A → Option A → Option A
or_else (some x) o = some x
or_else none o = o

-- of all that `seek` gives, the last
unfoldable pub last_in : {A : Type 0} → (Record → Option A) → Past → Option A
last_in seek [] = none
last_in seek (r ∷ rs) = or_else (last_in seek rs) (seek r)

-- all that `seek` gives, in order
unfoldable pub all_in : {A : Type 0} → (Record → List A) → Past → List A
all_in seek [] = []
all_in seek (r ∷ rs) = seek r ++ all_in seek rs

-- x where the test holds
abbrev pub only : {A : Type 0} → Bool → A → Option A
only true x = some x
only false x = none

-- what f says of it, x where there is none
abbrev pub of_it : {A B : Type 0} → (A → B) → B → Option A → B
of_it f x none = x
of_it f x (some r) = f r

abbrev pub is_there : {A : Type 0} → Option A → Bool
is_there o = of_it (λ r. true) false o

-- what a record of each kind that sets an object up gives; every other record gives x
abbrev pub by_setup : {A : Type 0} → (PortRecord → A) → (FilterRecord → A) → (GateRecord → A) → (MeterRecord → A) → (GroupRecord → A) → (SchedulerRecord → A) → A → Record → A
by_setup port filter gate meter group scheduler x (kind.Port r) = port r
by_setup port filter gate meter group scheduler x (kind.Filter r) = filter r
by_setup port filter gate meter group scheduler x (kind.Gate r) = gate r
by_setup port filter gate meter group scheduler x (kind.GateEntry r) = x
by_setup port filter gate meter group scheduler x (kind.Meter r) = meter r
by_setup port filter gate meter group scheduler x (kind.Group r) = group r
by_setup port filter gate meter group scheduler x (kind.Scheduler r) = scheduler r
by_setup port filter gate meter group scheduler x (kind.Start r) = x
by_setup port filter gate meter group scheduler x (kind.Arrival a) = x
by_setup port filter gate meter group scheduler x (kind.Clear r) = x

abbrev pub nothing : {A B : Type 0} → A → Option B
nothing r = none

-- the record itself, where it is that of port i, of filter i ..; an entry of gate i; a start; an arrival
abbrev pub seek_port : ℕ → Record → Option PortRecord
seek_port i = by_setup (λ r. only (eqb r.port i) r) nothing nothing nothing nothing nothing none

abbrev pub seek_filter : ℕ → Record → Option FilterRecord
seek_filter i = by_setup nothing (λ r. only (eqb r.id i) r) nothing nothing nothing nothing none

abbrev pub seek_gate : ℕ → Record → Option GateRecord
seek_gate i = by_setup nothing nothing (λ r. only (eqb r.id i) r) nothing nothing nothing none

abbrev pub seek_meter : ℕ → Record → Option MeterRecord
seek_meter i = by_setup nothing nothing nothing (λ r. only (eqb r.id i) r) nothing nothing none

abbrev pub seek_group : ℕ → Record → Option GroupRecord
seek_group i = by_setup nothing nothing nothing nothing (λ r. only (eqb r.id i) r) nothing none

abbrev pub seek_scheduler : ℕ → Record → Option SchedulerRecord
seek_scheduler i = by_setup nothing nothing nothing nothing nothing (λ r. only (eqb r.id i) r) none

abbrev pub seek_entry : ℕ → Record → List GateEntryRecord
seek_entry i = of_entry (λ r. cond (eqb r.gate i) (r ∷ []) []) []

abbrev pub seek_start : Record → Option StartRecord
seek_start = of_start some none

abbrev pub seek_arrival : Record → Option ArrivalRecord
seek_arrival = of_arrival some none

-- ---- what the records of a past say: the record of each object, the entries of each gate's list in order, the start, the last arrival

pub record Known : Type 0 where
  pub port : ℕ → Option PortRecord
  pub filter : ℕ → Option FilterRecord
  pub gate : ℕ → Option GateRecord
  pub entries : ℕ → List GateEntryRecord
  pub meter : ℕ → Option MeterRecord
  pub group : ℕ → Option GroupRecord
  pub scheduler : ℕ → Option SchedulerRecord
  pub start : Option StartRecord
  pub arrival : Option ArrivalRecord

abbrev pub known_of : Past → Known
known_of past = record {
  port = λ i. last_in (seek_port i) past;
  filter = λ i. last_in (seek_filter i) past;
  gate = λ i. last_in (seek_gate i) past;
  entries = λ i. all_in (seek_entry i) past;
  meter = λ i. last_in (seek_meter i) past;
  group = λ i. last_in (seek_group i) past;
  scheduler = λ i. last_in (seek_scheduler i) past;
  start = last_in seek_start past;
  arrival = last_in seek_arrival past;
}

-- a start was taken
abbrev pub started_in : Known → Bool
started_in k = is_there k.start

-- the traffic classes that it says, 0 if none was taken
abbrev pub classes_in : Known → ℕ
classes_in k = of_it (λ r. r.classes) 0 k.start

-- the time of the last taken arrival, 0 if none was taken
abbrev pub clock_in : Known → ℕ
clock_in k = of_it (λ a. a.time) 0 k.arrival

-- "A port with no record has overhead 0"
abbrev pub overhead_in : Known → ℕ → ℕ
overhead_in k i = of_it (λ r. r.overhead) 0 (k.port i)

-- the largest of the numbers that f gives below n
unfoldable pub largest_of : (ℕ → ℕ) → ℕ → ℕ
largest_of f zero = 0
largest_of f (suc n) = max (largest_of f n) (f n)

-- the largest port overhead
abbrev pub largest_in : Known → ℕ
largest_in k = largest_of (overhead_in k) port_count

-- a group's residence, the group that a scheduler names, and its burst; 0 of what has no record
abbrev pub residence_in : Known → ℕ → ℕ
residence_in k i = of_it (λ r. r.residence) 0 (k.group i)

abbrev pub group_named : Known → ℕ → ℕ
group_named k i = of_it (λ r. r.group) 0 (k.scheduler i)

abbrev pub burst_in : Known → ℕ → ℕ
burst_in k i = of_it (λ r. r.cbs.0) 0 (k.scheduler i)

-- the entry of a gate's list that a record of kind 4 says; state 0 is closed
abbrev pub entry_of : GateEntryRecord → Entry
entry_of r = record { opened = not (eqb r.state 0); ipv = r.ipv; interval = r.interval; maximum = r.octet_maximum }

-- ---- the tests on a record whose fields are in range

-- 5: "the port, filter, gate, meter, group or scheduler is set up already"
abbrev pub already_in : Known → Record → Bool
already_in k =
    by_setup (λ r. is_there (k.port r.port)) (λ r. is_there (k.filter r.id)) (λ r. is_there (k.gate r.id)) (λ r. is_there (k.meter r.id)) (λ r. is_there (k.group r.id))
    (λ r. is_there (k.scheduler r.id))
    false

-- 6: "a ninth entry for one gate"
abbrev pub ninth_in : Known → Record → Bool
ninth_in k = of_entry (λ r. leb entry_count (length (k.entries r.gate))) false

-- 7: "start: a filter's gate, meter or scheduler, an entry's gate or a scheduler's group is missing"
abbrev pub lacks_part : Known → FilterRecord → Bool
lacks_part k r =
    not (is_there (k.gate r.gate)) || (not (eqb r.meter 255) && not (is_there (k.meter r.meter))) || (not (eqb r.scheduler 255) && not (is_there (k.scheduler r.scheduler)))

abbrev pub lacks_gate : Known → ℕ → Bool
lacks_gate k i = not (is_there (k.gate i)) && leb 1 (length (k.entries i))

abbrev pub lacks_group : Known → SchedulerRecord → Bool
lacks_group k r = not (is_there (k.group r.group))

abbrev pub lacks_any : Known → Bool
lacks_any k = some_of (λ i. of_it (lacks_part k) false (k.filter i)) filter_count || some_of (lacks_gate k) gate_count || some_of (λ i. of_it (lacks_group k) false (k.scheduler i)) scheduler_count

abbrev pub missing_in : Known → Record → Bool
missing_in k = of_start (λ r. lacks_any k) false

-- 8: "start: a filter with a scheduler has no max SDU, or max SDU plus the largest port overhead exceeds the burst"
abbrev pub over_burst : Known → FilterRecord → Bool
over_burst k r = not (eqb r.scheduler 255) && (eqb r.max_sdu 0 || ltb (burst_in k r.scheduler) (length_of r.max_sdu (largest_in k)))

abbrev pub exceeds_in : Known → Record → Bool
exceeds_in k = of_start (λ r. some_of (λ i. of_it (over_burst k) false (k.filter i)) filter_count) false

-- 9: "arrival time before that of the last taken arrival"
abbrev pub early_in : Known → Record → Bool
early_in k = of_arrival (λ a. ltb a.time (clock_in k)) false

-- 10: "clear: that filter, gate or meter isn't set up". Flags: 1 filter oversize, 2 gate invalid-receive, 3 gate octets, 4 meter red
abbrev pub clearable_in : Known → ClearRecord → Bool
clearable_in k r =
    cond (eqb r.flag 1) (is_there (k.filter r.id))
    (cond (eqb r.flag 2) (is_there (k.gate r.id))
    (cond (eqb r.flag 3) (is_there (k.gate r.id))
    (cond (eqb r.flag 4) (is_there (k.meter r.id)) false)))

abbrev pub absent_in : Known → Record → Bool
absent_in k = of_clear (λ r. not (clearable_in k r)) false

-- ---- the table, in its order. 11 is not in it: the table of a history from fresh has its places

abbrev pub body_tries_in : Known → Call → Option Kind → List Try
body_tries_in k c o =
    try 4 (not (in_turn_in o (started_in k)))
    ∷ try 3 (out_of_range_of o c)
    ∷ try 5 (of_record (already_in k) o c)
    ∷ try 6 (of_record (ninth_in k) o c)
    ∷ try 7 (of_record (missing_in k) o c)
    ∷ try 8 (of_record (exceeds_in k) o c)
    ∷ try 9 (of_record (early_in k) o c)
    ∷ try 10 (of_record (absent_in k) o c)
    ∷ []

abbrev pub tries_by : Known → Call → Option Kind → List Try
tries_by k c o = try 1 (empty_of c) ∷ try 2 (unknown_of o) ∷ try 1 (not (leb (length_in o) (length c))) ∷ body_tries_in k c o

abbrev pub tries_in : Past → Call → List Try
tries_in past c = tries_by (known_of past) c (kind_of (get_or c 0 0))
