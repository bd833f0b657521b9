-- What taking a record that is no filter and no arrival does to the bank of words (01, Records; 01, Refusal numbers 5 to 8 and 10).
-- `s` is the bank's rows, `r` the record, whose fields are in range. A refusal leaves the very same rows.
use Rattle.std.specs.Prelude.{ℕ, zero, suc, ◌+◌, ◌*◌, ◌%◌, max, Bool, true, false, not, ◌&&◌, ◌||◌, cond, List, [], ◌∷◌, eqb, ltb, get_or}
use Rattle.sizes.specs.Meaning.{gate_count, entry_count, scheduler_count, entry_octets, list_octets}
use Rattle.bucket.specs.declared.Rate.{Rate}
use Rattle.bucket.specs.declared.Octets.{Octets}
use Rattle.bucket.specs.Meaning.{full_of}
use Rattle.meter.specs.declared.Meter.{Meter}
use Rattle.meter.specs.Meaning.{fresh_meter_of, meter_holding}
use Rattle.scheduler.specs.declared.Scheduler.{Scheduler}
use Rattle.gate.specs.declared.Gate.{Gate}
use Rattle.gate.specs.Meaning.{gate_holding}
use Rattle.record.specs.declared.PortRecord.{PortRecord}
use Rattle.record.specs.declared.GateRecord.{GateRecord}
use Rattle.record.specs.declared.GateEntryRecord.{GateEntryRecord}
use Rattle.record.specs.declared.MeterRecord.{MeterRecord}
use Rattle.record.specs.declared.GroupRecord.{GroupRecord}
use Rattle.record.specs.declared.SchedulerRecord.{SchedulerRecord}
use Rattle.record.specs.declared.StartRecord.{StartRecord}
use Rattle.record.specs.declared.ClearRecord.{ClearRecord}
use Rattle.record.specs.declared.Refusal.{Refusal}
use Rattle.record.specs.declared.Refusal.TheVariants.{SetUpAlready, NinthEntry, Missing, BurstTooSmall, NotSetUp}
use Rattle.bank.specs.Meaning.{Rows, store, is_set, component, with_classes, with_overhead, port, with_port, with_oversize, gate, gate_is_set, entries, with_gate, with_entries, with_gate_state, meter, meter_is_set, with_meter, with_meter_state, group, with_group, scheduler_is_set, scheduler_group, with_scheduler}
use Rattle.filter.specs.declared.Filter.{Filter}
use Rattle.filter.specs.Meaning.{Found, counts_of, is_found}
use Rattle.verdict.specs.Meaning.{Verdict, Refused, Taken, Told, told}

-- where the test holds, refused with that number, the rows as they were; else what follows
unfoldable pub refused_if : Bool → Refusal → Rows → Told → Told
refused_if true why s t = told s (Refused why)
refused_if false why s t = t

-- ---- kind 1, port. The largest overhead is kept beside the ports

abbrev pub with_largest : Rows → ℕ → Rows
with_largest s n = with_overhead s (max (component s).overhead n)

unfoldable pub set_port_of : Rows → PortRecord → Told
set_port_of s r =
    refused_if (port s r.port).set SetUpAlready s
    (told (with_port (with_largest s r.overhead) r.port (record { set = true; overhead = r.overhead; discarded = (port s r.port).discarded })) Taken)

-- ---- kind 3, gate. Entries may have come before it, and stay

unfoldable pub set_gate_of : Rows → GateRecord → Told
set_gate_of s r =
    refused_if (gate_is_set s r.id) SetUpAlready s
    (told (with_gate s r.id (is_set r.state) r.ipv (is_set r.invalid_receive_block) (is_set r.octets_block) r.base_time) Taken)

-- ---- kind 4, gate entry, with or without the gate's record. It leaves the octets of the lists, too

pub record Listed : Type 0 where
  pub bank : Rows
  pub lists : List ℕ
  pub verdict : Verdict

abbrev pub listed : Rows → List ℕ → Verdict → Listed
listed s lists v = record { bank = s; lists = lists; verdict = v }

-- octet k of a body, 0 past its end
abbrev pub octet_at : List ℕ → ℕ → ℕ
octet_at body k = get_or body k 0

-- the octets that are kept of an entry's body: its eleven, as they came
abbrev pub entry_body_of : List ℕ → List ℕ
entry_body_of body =
    octet_at body 0 ∷ octet_at body 1 ∷ octet_at body 2 ∷ octet_at body 3 ∷ octet_at body 4 ∷ octet_at body 5 ∷ octet_at body 6 ∷ octet_at body 7 ∷ octet_at body 8 ∷ octet_at body 9 ∷ octet_at body 10 ∷ []

-- where entry n of a gate is kept
abbrev pub entry_place : ℕ → ℕ → ℕ
entry_place i n = i % gate_count * list_octets + n * entry_octets

abbrev pub entry_kept : List ℕ → ℕ → List ℕ → List ℕ
entry_kept lists at body = store lists at 0 (entry_body_of body)

unfoldable pub add_entry_of : Rows → List ℕ → List ℕ → GateEntryRecord → Listed
add_entry_of s lists body r =
    let n = entries s r.gate in
    cond (ltb n entry_count) (listed (with_entries s r.gate (n + 1)) (entry_kept lists (entry_place r.gate n) body) Taken) (listed s lists (Refused NinthEntry))

-- ---- kind 5, meter. Its buckets start full

unfoldable pub set_meter_of : Rows → MeterRecord → Told
set_meter_of s r =
    refused_if (meter_is_set s r.id) SetUpAlready s
    (told (with_meter s r.id (fresh_meter_of r.cir r.cbs r.eir r.ebs (is_set r.coupling) (is_set r.colour_aware) (is_set r.drop_on_yellow) (is_set r.red_block))) Taken)

-- ---- kind 6, group. Its last time starts at 0

unfoldable pub set_group_of : Rows → GroupRecord → Told
set_group_of s r =
    refused_if (group s r.id).set SetUpAlready s
    (told (with_group s r.id (record { set = true; residence = r.residence; last = 0 })) Taken)

-- ---- kind 7, scheduler. Its bucket starts full

abbrev pub fresh_scheduler_of : Rate → Octets → Scheduler
fresh_scheduler_of rate burst = record { rate = rate; burst = burst; level = full_of burst; last = 0 }

unfoldable pub set_scheduler_of : Rows → SchedulerRecord → Told
set_scheduler_of s r =
    refused_if (scheduler_is_set s r.id) SetUpAlready s
    (told (with_scheduler s r.id r.group (fresh_scheduler_of r.cir r.cbs)) Taken)

-- ---- kind 8, start

-- a gate has entries and no record
abbrev pub stray_of : Rows → ℕ → Bool
stray_of s i = not (gate_is_set s i) && ltb 0 (entries s i)

-- a scheduler has a record, and its group has none
abbrev pub groupless_of : Rows → ℕ → Bool
groupless_of s i = scheduler_is_set s i && not (group s (scheduler_group s i)).set

-- some number below n passes the test
unfoldable pub some_of : (ℕ → Bool) → ℕ → Bool
some_of test zero = false
some_of test (suc n) = some_of test n || test n

-- `missing` is the first filter whose gate, meter or scheduler is missing
abbrev pub incomplete_of : Rows → Found → Bool
incomplete_of s missing = is_found missing || some_of (stray_of s) gate_count || some_of (groupless_of s) scheduler_count

-- `exceeding` is the first filter that exceeds its scheduler's burst. 7 is tried before 8
unfoldable pub start_of : Rows → StartRecord → Found → Found → Told
start_of s r missing exceeding = refused_if (incomplete_of s missing) Missing s (refused_if (is_found exceeding) BurstTooSmall s (told (with_classes s r.classes) Taken))

-- ---- kind 10, clear: flag 1 filter oversize, 2 gate invalid-receive, 3 gate octets, 4 meter red

abbrev pub with_flags : Gate → Bool → Bool → Gate
with_flags g invalidReceive octets = gate_holding g invalidReceive octets g.since g.spent

abbrev pub red_low : Meter → Meter
red_low m = meter_holding m m.committed m.excess m.last false

-- `row` is what the filter table has at place i: whether it counts as a filter
unfoldable pub clear_oversize_of : Rows → ℕ → Filter → Told
clear_oversize_of s i row = refused_if (not (counts_of s row)) NotSetUp s (told (with_oversize s i false) Taken)

unfoldable pub clear_invalid_receive_of : Rows → ℕ → Told
clear_invalid_receive_of s i = refused_if (not (gate_is_set s i)) NotSetUp s (told (with_gate_state s i (with_flags (gate s i) false (gate s i).octets_flag)) Taken)

unfoldable pub clear_octets_of : Rows → ℕ → Told
clear_octets_of s i = refused_if (not (gate_is_set s i)) NotSetUp s (told (with_gate_state s i (with_flags (gate s i) (gate s i).invalid_receive_flag false)) Taken)

unfoldable pub clear_red_of : Rows → ℕ → Told
clear_red_of s i = refused_if (not (meter_is_set s i)) NotSetUp s (told (with_meter_state s i (red_low (meter s i))) Taken)

-- by the number of the flag; no record has any other
unfoldable pub clear_of : Rows → ClearRecord → Filter → Told
clear_of s r row =
    cond (eqb r.flag 1) (clear_oversize_of s r.id row)
    (cond (eqb r.flag 2) (clear_invalid_receive_of s r.id)
    (cond (eqb r.flag 3) (clear_octets_of s r.id)
    (cond (eqb r.flag 4) (clear_red_of s r.id)
    (told s (Refused NotSetUp)))))
