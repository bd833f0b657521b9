-- A frame's path: document 01's five steps, from the last to the first, since each ends in the next.
-- `s` is the bank's rows, `a` the arrival, `f` the matched filter's number and `row` its row.
use Rattle.std.specs.Prelude.{ℕ, ◌*◌, ◌%◌, ◌^◌, Bool, cond, not, ◌&&◌, ◌||◌, List, take, drop, Option, Some, None, is_some, unwrap_or, ◌==◌, nat_le, nat_lt}
use Rattle.sizes.specs.Meaning.{gate_count, entry_octets, list_octets}
use Rattle.bucket.specs.declared.Octets.{Octets}
use Rattle.frame.specs.Meaning.{frame_of}
use Rattle.class.specs.Meaning.{traffic_class_of}
use Rattle.gate.specs.declared.Stepped.{Stepped as GateStepped}
use Rattle.gate.specs.declared.Outcome.{Outcome as GateOutcome}
use Rattle.gate.specs.declared.Outcome.TheVariants.{Passed as Open, Blocked, Closed, TooManyOctets}
use Rattle.gate.specs.Meaning.{entries_of, gate_step_of}
use Rattle.meter.specs.declared.Metered.{Metered}
use Rattle.meter.specs.declared.Outcome.{Outcome as MeterOutcome}
use Rattle.meter.specs.declared.Outcome.TheVariants.{Green, Yellow, YellowDropped, Red, OutOfRange, TooEarly}
use Rattle.meter.specs.Meaning.{colour_of}
use Rattle.scheduler.specs.declared.Scheduler.{Scheduler}
use Rattle.scheduler.specs.declared.Stepped.{Stepped}
use Rattle.scheduler.specs.declared.Outcome.{Outcome as SchedulerOutcome}
use Rattle.scheduler.specs.declared.Outcome.TheVariants.{Admitted, Dropped as Late, Refused as Unsound}
use Rattle.scheduler.specs.Meaning.{scheduler_step_of}
use Rattle.record.specs.declared.ArrivalRecord.{ArrivalRecord}
use Rattle.record.specs.declared.Refusal.TheVariants.{TimeGoesBack}
use Rattle.bank.specs.Meaning.{Rows, is_set, component, with_clock, port, with_discarded, counters, one_more, bump, with_oversize, gate, entries, with_gate_state, meter, with_meter_state, scheduler, scheduler_group, with_scheduler_state, group, with_group_last}
use Rattle.bank.specs.declared.Counter.TheVariants.{Matching, PassingSdu, NotPassingSdu, Passing, NotPassing, Red as RedFrames}
use Rattle.filter.specs.declared.Filter.{Filter}
use Rattle.filter.specs.Meaning.{Found}
use Rattle.verdict.specs.Meaning.{Verdict, Refused, Passed, Dropped, Told, told}
use Rattle.verdict.specs.declared.Drop.TheVariants as drop

-- ---- what a pass carries

-- the gate's IPV, or the frame's own priority where the IPV is null
abbrev pub internal_of : ℕ → ℕ → ℕ
internal_of ipv own = cond (nat_le ipv 7) ipv own

abbrev pub class_in : Option ℕ → ℕ
class_in (Some c) = c
class_in None = 0

-- the number of classes, one octet as start's record has it: a word that no start wrote is cut to it
abbrev pub class_count : Rows → ℕ
class_count s = (component s).classes % 2 ^ 8

-- internal priority, its traffic class, drop mark, and eligibility time or none
unfoldable pub pass_of : Rows → ℕ → ℕ → Option ℕ → Verdict
pass_of s priority mark eligible = Passed (record { priority = priority; class = class_in (traffic_class_of priority (class_count s)); drop_mark = mark; timed = is_some eligible; eligible = unwrap_or eligible 0 })

-- ---- counters: what step 2, 3 or 4 counts of filter `f`; all others stay

-- MatchingFrames and PassingSDU
unfoldable pub sdu_passed : Rows → ℕ → Rows
sdu_passed s f = bump (bump s f Matching) f PassingSdu

-- MatchingFrames and NotPassingSDU, and the oversize flag at `flag`
unfoldable pub sdu_failed : Rows → ℕ → Bool → Rows
sdu_failed s f flag = with_oversize (bump (bump s f Matching) f NotPassingSdu) f flag

-- PassingFrames
unfoldable pub gate_passed : Rows → ℕ → Rows
gate_passed s f = bump s f Passing

-- NotPassingFrames
unfoldable pub gate_failed : Rows → ℕ → Rows
gate_failed s f = bump s f NotPassing

-- REDFrames
unfoldable pub red_counted : Rows → ℕ → Rows
red_counted s f = bump s f RedFrames

-- DiscardedFrames of a port
unfoldable pub discard_counted : Rows → ℕ → Rows
discard_counted s p = with_discarded s p (one_more (port s p).discarded)

-- ---- 5. Scheduler, if named. Residence exceeded: drop 8, counting DiscardedFrames of the reception port

-- "Length = MSDU + port overhead"
abbrev pub charged_of : Rows → ArrivalRecord → Octets
charged_of s a = frame_of a.msdu (port s a.port).overhead

-- by what scheduler `i` of group `j` says. Numbers that no record could have written (the step refuses them) drop the frame too
unfoldable pub scheduled_by : Rows → ArrivalRecord → ℕ → ℕ → ℕ → ℕ → Scheduler → SchedulerOutcome → Told
scheduled_by s a i j priority mark x (Admitted at) =
    let s' = with_group_last (with_scheduler_state s i x) j at in
    told s' (pass_of s' priority mark (Some at))
scheduled_by s a i j priority mark x Late = told (discard_counted s a.port) (Dropped drop.Residence)
scheduled_by s a i j priority mark x Unsound = told (discard_counted s a.port) (Dropped drop.Residence)

abbrev pub offered_of : Rows → ArrivalRecord → ℕ → ℕ → Stepped
offered_of s a i j = scheduler_step_of (scheduler s i) (group s j).last (group s j).residence a.time (charged_of s a)

unfoldable pub scheduled_of : Rows → ArrivalRecord → Filter → ℕ → ℕ → Told
scheduled_of s a row priority mark =
    let i = row.scheduler in
    let j = scheduler_group s i in
    cond (i == 255) (told s (pass_of s priority mark None)) (scheduled_by s a i j priority mark (offered_of s a i j).scheduler (offered_of s a i j).outcome)

-- ---- 4. Meter, if named. Yellow with drop on yellow: drop 6. Red: drop 7. Both count REDFrames. Yellow otherwise makes the frame drop eligible

-- by what meter `i` says; `s` has the meter as it gave itself back. Numbers that no record could have written are red
unfoldable pub metered_by : Rows → ArrivalRecord → ℕ → Filter → ℕ → MeterOutcome → Told
metered_by s a f row priority Green = scheduled_of s a row priority a.drop_eligible
metered_by s a f row priority Yellow = scheduled_of s a row priority 1
metered_by s a f row priority YellowDropped = told (red_counted s f) (Dropped drop.Yellow)
metered_by s a f row priority Red = told (red_counted s f) (Dropped drop.Red)
metered_by s a f row priority OutOfRange = told (red_counted s f) (Dropped drop.Red)
metered_by s a f row priority TooEarly = told (red_counted s f) (Dropped drop.Red)

abbrev pub coloured_of : Rows → ArrivalRecord → ℕ → Metered
coloured_of s a i = colour_of (meter s i) a.time (record { 0 = a.msdu }) (is_set a.drop_eligible)

unfoldable pub metered_of : Rows → ArrivalRecord → ℕ → Filter → ℕ → Told
metered_of s a f row priority =
    let i = row.meter in
    cond (i == 255) (scheduled_of s a row priority a.drop_eligible) (metered_by (with_meter_state s i (coloured_of s a i).meter) a f row priority (coloured_of s a i).outcome)

-- ---- 3. Gate. A flag standing: drop 3. State closed: drop 4. MSDU greater than the octets left: drop 5. Each counts NotPassingFrames, otherwise count PassingFrames

-- by what the gate says; `s` has the gate as the frame left it
unfoldable pub gated_by : Rows → ArrivalRecord → ℕ → Filter → GateOutcome → Told
gated_by s a f row (Open ipv) = metered_of (gate_passed s f) a f row (internal_of ipv a.priority)
gated_by s a f row Blocked = told (gate_failed s f) (Dropped drop.GateBlocked)
gated_by s a f row Closed = told (gate_failed s f) (Dropped drop.GateClosed)
gated_by s a f row TooManyOctets = told (gate_failed s f) (Dropped drop.GateOctets)

-- the octets of gate `i`'s list
abbrev pub list_of : Rows → List ℕ → ℕ → List ℕ
list_of s lists i = take (entries s i * entry_octets) (drop (i % gate_count * list_octets) lists)

abbrev pub reached_of : Rows → List ℕ → ArrivalRecord → ℕ → GateStepped
reached_of s lists a i = gate_step_of (gate s i) (entries_of (list_of s lists i)) a.time a.msdu

unfoldable pub gated_of : Rows → List ℕ → ArrivalRecord → ℕ → Filter → Told
gated_of s lists a f row =
    let i = row.gate in
    gated_by (with_gate_state s i (reached_of s lists a i).gate) a f row (reached_of s lists a i).outcome

-- ---- 2. Count MatchingFrames. Oversize block and flag: drop 1. MSDU greater than the max SDU: drop 2, setting the flag if oversize block is set.
-- Either counts NotPassingSDU; otherwise PassingSDU

unfoldable pub sdu_filtered_of : Rows → List ℕ → ArrivalRecord → ℕ → Filter → Told
sdu_filtered_of s lists a f row =
    let c = counters s f in
    cond (row.oversize_block == 1 && c.oversize) (told (sdu_failed s f c.oversize) (Dropped drop.OversizeBlocked))
    (cond (not (row.max_sdu == 0) && nat_lt row.max_sdu a.msdu) (told (sdu_failed s f (c.oversize || row.oversize_block == 1)) (Dropped drop.Oversize))
    (gated_of (sdu_passed s f) lists a f row))

-- ---- 1. The first filter that matches is used. None: the frame passes, no counter moves, own priority, no eligibility time

abbrev pub matched_of : Rows → List ℕ → ArrivalRecord → Found → Told
matched_of s lists a (Some (f, row)) = sdu_filtered_of s lists a f row
matched_of s lists a None = told s (pass_of s a.priority a.drop_eligible None)

-- ---- an arrival. Refusal 9: its time is before that of the last taken arrival

unfoldable pub arrival_of : Rows → List ℕ → ArrivalRecord → Found → Told
arrival_of s lists a found = cond (nat_lt a.time (component s).clock) (told s (Refused TimeGoesBack)) (matched_of (with_clock s a.time) lists a found)
