-- What document 01 says of a frame (01, A frame's path), in terms of the bridge as the frame finds it: how far it comes, and the verdict that it is given
-- there. The answers that a meter, a scheduler and the table of classes keep for numbers that no record could have written are none of these cases.
-- That the verdict is always one of them, and this one, is `Theorem.antt`.
use Rattle.std.specs.Prelude.{ℕ, ◌+◌, ◌≤◌, ◌<◌, ◌^◌, Bool, true, false, List, ◌≢◌, ◌≡◌, None, Some}
use Rattle.std.specs.Prelude.{Option, is_some, unwrap_or}
use Rattle.bucket.specs.Meaning.{grains}
use Rattle.class.specs.Meaning.{class_at}
use Rattle.gate.specs.declared.Outcome.TheVariants.{Passed as Open, Blocked, Closed, TooManyOctets}
use Rattle.meter.specs.declared.Outcome.{Outcome}
use Rattle.meter.specs.declared.Outcome.TheVariants.{Green, Yellow, YellowDropped, Red}
use Rattle.meter.specs.Meaning.{filled_of, painted_of}
use Rattle.scheduler.specs.Meaning.{eligible_of}
use Rattle.record.specs.declared.ArrivalRecord.{ArrivalRecord}
use Rattle.record.specs.declared.Refusal.TheVariants.{TimeGoesBack}
use Rattle.bank.specs.Meaning.{is_set, component, counters, meter, scheduler, scheduler_group, group}
use Rattle.filter.specs.declared.Filter.{Filter}
use Rattle.filter.specs.Meaning.{Fits}
use Rattle.verdict.specs.declared.Pass.{Pass}
use Rattle.verdict.specs.Meaning.{Verdict}
use Rattle.verdict.specs.Meaning.{Refused, Passed, Dropped}
use Rattle.path.specs.Meaning.{internal_of, charged_of, reached_of}
use Rattle.stage.specs.Meaning.{Bridge, bridge, key_of, first_row, take_of}
use Rattle.promises.specs.Meaning.{Call, fresh}
use Rattle.verdict.specs.declared.Drop.TheVariants as drop

-- ---- the bridges that calls can reach. The filter table is lent: between two calls its owner may write whatever he likes into it

pub data Reached : Bridge → Type 0 where
  begins : Reached fresh
  calls : {b : Bridge} → Reached b → (c : Call) → Reached (take_of b c).after
  spoils : {b : Bridge} → Reached b → (table : List Filter) → Reached (bridge table b.bank b.lists)

-- the bounds of document 01 for the times that a bridge keeps
pub record InBounds (b : Bridge) : Type 0 where
  pub clock : (component b.bank).clock ≤ 2 ^ 62
  pub meters : (i : ℕ) → (meter b.bank i).last ≤ (component b.bank).clock
  pub schedulers : (i : ℕ) → (scheduler b.bank i).last ≤ 2 ^ 62 + 1_000_000_000
  pub groups : (i : ℕ) → (group b.bank i).last ≤ 2 ^ 62 + 1_000_000_000

-- ---- what the steps compute

-- 4: the meter "first fills", then colours the frame. "If the red flag stands: red"
abbrev pub colour_at : Bridge → ArrivalRecord → ℕ → Outcome
colour_at b a i = (painted_of (filled_of (meter b.bank i) a.time) (grains a.msdu) (is_set a.drop_eligible)).outcome

-- 5: the eligibility time that scheduler `i` computes, and the latest that is admitted, "arrival + residence"
abbrev pub eligible_at : Bridge → ArrivalRecord → ℕ → ℕ
eligible_at b a i = eligible_of (scheduler b.bank i) (group b.bank (scheduler_group b.bank i)).last a.time (charged_of b.bank a).0

abbrev pub latest_at : Bridge → ArrivalRecord → ℕ → ℕ
latest_at b a i = a.time + (group b.bank (scheduler_group b.bank i)).residence

-- "A pass carries the internal priority .., its traffic class, drop mark, and eligibility time or none": the class is that of the table
abbrev pub pass_at : Bridge → ℕ → ℕ → Option ℕ → Pass
pass_at b priority mark eligible = record { priority = priority; class = class_at priority (component b.bank).classes; drop_mark = mark; timed = is_some eligible; eligible = unwrap_or eligible 0 }

-- ---- how far the frame comes

module _ (b : Bridge) (a : ArrivalRecord) where
  -- 1: its time does not go back, and filter `f` is the first that matches
  pub record Matched (f : ℕ) (row : Filter) : Type 0 where
    pub timely : (component b.bank).clock ≤ a.time
    pub first : first_row b Fits (key_of a) ≡ Some (f, row)

  -- 2: not oversize block and flag, nor MSDU greater than the max SDU
  pub record AtGate (f : ℕ) (row : Filter) : Type 0 where
    pub matched : Matched f row
    pub unblocked : row.oversize_block ≡ 1 → (counters b.bank f).oversize ≡ false
    pub within : row.max_sdu ≢ 0 → a.msdu ≤ row.max_sdu

  -- 3: the gate lets it through with its IPV
  pub record AtMeter (f : ℕ) (row : Filter) (ipv : ℕ) : Type 0 where
    pub at_gate : AtGate f row
    pub opens : (reached_of b.bank b.lists a row.gate).outcome ≡ Open ipv

  -- 4: the drop mark with which it goes on: its own, unless it is yellow
  pub data Marked (row : Filter) : ℕ → Type 0 where
    unmetered : row.meter ≡ 255 → Marked row a.drop_eligible
    green : row.meter ≢ 255 → colour_at b a row.meter ≡ Green → Marked row a.drop_eligible
    yellow : row.meter ≢ 255 → colour_at b a row.meter ≡ Yellow → Marked row 1

  pub record PastMeter (f : ℕ) (row : Filter) (ipv mark : ℕ) : Type 0 where
    pub at_meter : AtMeter f row ipv
    pub marked : Marked row mark

  -- 5: a scheduler is named
  pub record AtScheduler (f : ℕ) (row : Filter) (ipv mark : ℕ) : Type 0 where
    pub past_meter : PastMeter f row ipv mark
    pub named : row.scheduler ≢ 255

  -- ---- what drops it, or holds it back, at steps 4 and 5

  -- a meter is named, and gives this colour
  pub record ColouredAs (o : Outcome) : Type 0 where
    pub filter : ℕ
    pub row : Filter
    pub ipv : ℕ
    pub at_meter : AtMeter filter row ipv
    pub named : row.meter ≢ 255
    pub coloured : colour_at b a row.meter ≡ o

  -- "Residence exceeded": the eligibility time would be after arrival + residence
  pub record ResidenceExceeded : Type 0 where
    pub filter : ℕ
    pub row : Filter
    pub ipv : ℕ
    pub mark : ℕ
    pub at_scheduler : AtScheduler filter row ipv mark
    pub exceeds : latest_at b a row.scheduler < eligible_at b a row.scheduler

  -- a scheduler makes it eligible at that time
  pub record EligibleAs (at : ℕ) : Type 0 where
    pub filter : ℕ
    pub row : Filter
    pub ipv : ℕ
    pub mark : ℕ
    pub at_scheduler : AtScheduler filter row ipv mark
    pub computed : at ≡ eligible_at b a row.scheduler
    pub in_time : at ≤ latest_at b a row.scheduler

  -- ---- the verdict, and when it is given

  pub data Given : Verdict → Type 0 where
    -- refusal 9
    goes_back : a.time < (component b.bank).clock → Given (Refused TimeGoesBack)
    -- 1: "None: the frame passes, .. own priority, no eligibility time"
    unmatched : (component b.bank).clock ≤ a.time → first_row b Fits (key_of a) ≡ None → Given (Passed (pass_at b a.priority a.drop_eligible None))
    -- 2: "If oversize block is set and the oversize flag stands: drop 1. Else if a max SDU exists and MSDU is greater: drop 2"
    drop_1 : (f : ℕ) (row : Filter) → Matched f row → row.oversize_block ≡ 1 → (counters b.bank f).oversize ≡ true → Given (Dropped drop.OversizeBlocked)
    drop_2 : (f : ℕ) (row : Filter) → Matched f row → (row.oversize_block ≡ 1 → (counters b.bank f).oversize ≡ false) → row.max_sdu ≢ 0 → row.max_sdu < a.msdu → Given (Dropped drop.Oversize)
    -- 3: the gate's drops
    drop_3 : (f : ℕ) (row : Filter) → AtGate f row → (reached_of b.bank b.lists a row.gate).outcome ≡ Blocked → Given (Dropped drop.GateBlocked)
    drop_4 : (f : ℕ) (row : Filter) → AtGate f row → (reached_of b.bank b.lists a row.gate).outcome ≡ Closed → Given (Dropped drop.GateClosed)
    drop_5 : (f : ℕ) (row : Filter) → AtGate f row → (reached_of b.bank b.lists a row.gate).outcome ≡ TooManyOctets → Given (Dropped drop.GateOctets)
    -- 4: "Yellow with drop on yellow: drop 6. Red: drop 7"
    drop_6 : ColouredAs YellowDropped → Given (Dropped drop.Yellow)
    drop_7 : ColouredAs Red → Given (Dropped drop.Red)
    -- no scheduler is named
    unscheduled : (f : ℕ) (row : Filter) (ipv mark : ℕ) → PastMeter f row ipv mark → row.scheduler ≡ 255 → Given (Passed (pass_at b (internal_of ipv a.priority) mark None))
    -- 5: "If it is at most arrival + residence", it is eligible then; "Residence exceeded: drop 8"
    scheduled : (f : ℕ) (row : Filter) (ipv mark : ℕ) → AtScheduler f row ipv mark → eligible_at b a row.scheduler ≤ latest_at b a row.scheduler
        → Given (Passed (pass_at b (internal_of ipv a.priority) mark (Some (eligible_at b a row.scheduler))))
    drop_8 : ResidenceExceeded → Given (Dropped drop.Residence)
