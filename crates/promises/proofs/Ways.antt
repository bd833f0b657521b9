-- Every way that a call can go, and the one induction over the ways of a frame: what holds of the bank before each step of the path holds after
-- it, and so of what the frame is told. The promises on flags and counters cite it, and say only what each store keeps.
use Rattle.std.specs.Prelude.{ℕ, Bool, true, false, not, cond, ◌&&◌, ◌||◌, List, ◌≡◌, eqb, length, Ok, Err, None, Some}
use Rattle.std.proofs.Math.Path.{refl}
use Rattle.std.proofs.Common.{sym, ap, ◌∙◌, eqb-true}
use Rattle.std.proofs.Math.Dec.{ltb}
use Rattle.sizes.specs.Meaning.{filter_count}
use Rattle.logic.specs.Laws.{if_by, or_left}
use Rattle.gate.specs.declared.Outcome.{Outcome as GateOutcome}
use Rattle.gate.specs.declared.Outcome.TheVariants.{Passed as Open, Blocked, Closed, TooManyOctets}
use Rattle.meter.specs.declared.Outcome.{Outcome as MeterOutcome}
use Rattle.meter.specs.declared.Outcome.TheVariants.{Green, Yellow, YellowDropped, Red, OutOfRange, TooEarly}
use Rattle.scheduler.specs.declared.Scheduler.{Scheduler}
use Rattle.scheduler.specs.declared.Outcome.{Outcome as SchedulerOutcome}
use Rattle.scheduler.specs.declared.Outcome.TheVariants.{Admitted, Dropped as Late, Refused as Unsound}
use Rattle.record.specs.declared.Record.{Record}
use Rattle.record.specs.declared.ArrivalRecord.{ArrivalRecord}
use Rattle.record.specs.declared.Refusal.{Refusal}
use Rattle.record.specs.declared.Refusal.TheVariants.{TableLength, TimeGoesBack}
use Rattle.record.specs.Meaning.{Reading}
use Rattle.bank.proofs.Laws.{bump_same}
use Rattle.bank.specs.declared.Counter.{Counter}
use Rattle.bank.specs.declared.Counter.TheVariants.{Matching, PassingSdu, NotPassingSdu, Passing, NotPassing, Red as RedFrames}
use Rattle.verdict.specs.declared.Drop.{Drop}
use Rattle.record.specs.Meaning.{read_of}
use Rattle.bank.specs.Meaning.{Rows, component, with_clock, counters, with_gate_state, with_meter_state, with_scheduler_state, with_group_last, bump, with_oversize, with_discarded, counters_in}
use Rattle.filter.specs.declared.Filter.{Filter}
use Rattle.filter.specs.Meaning.{Found}
use Rattle.verdict.specs.declared.Drop.TheVariants as drop
use Rattle.verdict.specs.declared.Pass.{Pass}
use Rattle.verdict.specs.Meaning.{Refused, Passed, Dropped}
use Rattle.verdict.specs.Meaning.{Told, told}
use Rattle.path.specs.Meaning.{pass_of, sdu_passed, sdu_failed, gate_passed, gate_failed, red_counted, discard_counted, scheduled_by, scheduled_of, coloured_of, metered_by, metered_of, reached_of, gated_by, gated_of, sdu_filtered_of, arrival_of}
use Rattle.stage.specs.Meaning.{Bridge, Took, refused_of, taken_of, read_by, started_of, take_of}

-- ---- the bank as the steps leave it

-- the clock stands at the arrival
abbrev pub ticked : Rows → ArrivalRecord → Rows
ticked s a = with_clock s a.time

-- step 3: the gate as the frame leaves it is stored before anything else
abbrev pub gated : Rows → List ℕ → ArrivalRecord → ℕ → Rows
gated s lists a i = with_gate_state s i (reached_of s lists a i).gate

-- step 4: what the meter gives back is stored before anything else
abbrev pub metered : Rows → ArrivalRecord → ℕ → Rows
metered s a i = with_meter_state s i (coloured_of s a i).meter

-- the drops of a gate, and those of a meter
pub data ByGate : Drop → Type 0 where
  blocked : ByGate drop.GateBlocked
  closed : ByGate drop.GateClosed
  exceeded : ByGate drop.GateOctets

pub data ByMeter : Drop → Type 0 where
  yellow : ByMeter drop.Yellow
  red : ByMeter drop.Red

-- ---- a frame that matches a filter

module _ (lists : List ℕ) (a : ArrivalRecord) (f : ℕ) (row : Filter) where
  -- what is to be shown: P₂ holds as the frame comes to step 2, P₃ as it comes to the gate and P₄ as it comes to the meter and the scheduler; Q of
  -- what it is told
  pub record Along (P₂ P₃ P₄ : Rows → Type 0) (Q : Told → Type 0) : Type 0 where
    pub stopped : (s : Rows) → P₂ s → Q (told (sdu_failed s f (counters s f).oversize) (Dropped drop.OversizeBlocked))
    pub oversize : (s : Rows) (set : Bool) → P₂ s → Q (told (sdu_failed s f ((counters s f).oversize || set)) (Dropped drop.Oversize))
    pub fits : (s : Rows) → P₂ s → P₃ (sdu_passed s f)
    pub gates : (s : Rows) → P₃ s → P₃ (gated s lists a row.gate)
    pub shut : (s : Rows) (d : Drop) → ByGate d → P₃ s → Q (told (gate_failed s f) (Dropped d))
    pub opens : (s : Rows) → P₃ s → P₄ (gate_passed s f)
    pub meters : (s : Rows) → eqb row.meter 255 ≡ false → P₄ s → P₄ (metered s a row.meter)
    pub exceeds : (s : Rows) (d : Drop) → ByMeter d → P₄ s → Q (told (red_counted s f) (Dropped d))
    pub passes : (s : Rows) (p : Pass) → P₄ s → Q (told s (Passed p))
    pub admits : (s : Rows) (i j at : ℕ) (x : Scheduler) (p : Pass) → P₄ s → Q (told (with_group_last (with_scheduler_state s i x) j at) (Passed p))
    pub late : (s : Rows) → P₄ s → Q (told (discard_counted s a.port) (Dropped drop.Residence))

  module _ (P₂ P₃ P₄ : Rows → Type 0) (Q : Told → Type 0) (all : Along P₂ P₃ P₄ Q) where
    scheduled_outcome : (s : Rows) → P₄ s → (i j priority mark : ℕ) (x : Scheduler) (o : SchedulerOutcome) → Q (scheduled_by s a i j priority mark x o)
    unfolding scheduled_by pass_of
    scheduled_outcome s h i j priority mark x (Admitted at) = all.admits s i j at x _ h
    scheduled_outcome s h i j priority mark x Late = all.late s h
    scheduled_outcome s h i j priority mark x Unsound = all.late s h

    scheduled_along : (s : Rows) → P₄ s → (priority mark : ℕ) → Q (scheduled_of s a row priority mark)
    unfolding scheduled_of pass_of
    scheduled_along s h priority mark = if_by Q (eqb row.scheduler 255) _ _ (λ e. all.passes s _ h) (λ e. scheduled_outcome s h _ _ _ _ _ _)

    metered_outcome : (s : Rows) → P₄ s → (priority : ℕ) (o : MeterOutcome) → Q (metered_by s a f row priority o)
    unfolding metered_by
    metered_outcome s h priority Green = scheduled_along s h priority _
    metered_outcome s h priority Yellow = scheduled_along s h priority _
    metered_outcome s h priority YellowDropped = all.exceeds s drop.Yellow yellow h
    metered_outcome s h priority Red = all.exceeds s drop.Red red h
    metered_outcome s h priority OutOfRange = all.exceeds s drop.Red red h
    metered_outcome s h priority TooEarly = all.exceeds s drop.Red red h

    metered_along : (s : Rows) → P₄ s → (priority : ℕ) → Q (metered_of s a f row priority)
    unfolding metered_of
    metered_along s h priority = if_by Q (eqb row.meter 255) _ _ (λ e. scheduled_along s h priority _) (λ e. metered_outcome _ (all.meters s e h) priority _)

    gated_outcome : (s : Rows) → P₃ s → (o : GateOutcome) → Q (gated_by s a f row o)
    unfolding gated_by
    gated_outcome s h (Open ipv) = metered_along _ (all.opens s h) _
    gated_outcome s h Blocked = all.shut s drop.GateBlocked blocked h
    gated_outcome s h Closed = all.shut s drop.GateClosed closed h
    gated_outcome s h TooManyOctets = all.shut s drop.GateOctets exceeded h

    gated_along : (s : Rows) → P₃ s → Q (gated_of s lists a f row)
    unfolding gated_of
    gated_along s h = gated_outcome _ (all.gates s h) _

    pub frame_along : (s : Rows) → P₂ s → Q (sdu_filtered_of s lists a f row)
    unfolding sdu_filtered_of
    frame_along s h =
        if_by Q (eqb row.oversize_block 1 && (counters s f).oversize) _ _ (λ e. all.stopped s h)
        (λ e. if_by Q (not (eqb row.max_sdu 0) && ltb row.max_sdu a.msdu) _ _ (λ e'. all.oversize s (eqb row.oversize_block 1) h) (λ e'. gated_along _ (all.fits s h)))

  -- where one P holds throughout, it is enough that each store keeps it; a flag of the filter is only ever set
  pub record Kept (P : Rows → Type 0) : Type 0 where
    pub counts : (s : Rows) (k : Counter) → P s → P (bump s f k)
    pub marks : (s : Rows) (flag : Bool) → ((counters s f).oversize ≡ true → flag ≡ true) → P s → P (with_oversize s f flag)
    pub gates : (s : Rows) → P s → P (gated s lists a row.gate)
    pub meters : (s : Rows) → eqb row.meter 255 ≡ false → P s → P (metered s a row.meter)
    pub schedulers : (s : Rows) (i : ℕ) (x : Scheduler) → P s → P (with_scheduler_state s i x)
    pub groups : (s : Rows) (j at : ℕ) → P s → P (with_group_last s j at)
    pub ports : (s : Rows) (n : ℕ) → P s → P (with_discarded s a.port n)

  -- the counts leave the flag
  flag_counted : (s : Rows) (k : Counter) → (counters (bump s f k) f).oversize ≡ (counters s f).oversize
  flag_counted s Matching = ap (λ (row : List ℕ). (counters_in row).oversize) (bump_same s f Matching)
  flag_counted s PassingSdu = ap (λ (row : List ℕ). (counters_in row).oversize) (bump_same s f PassingSdu)
  flag_counted s NotPassingSdu = ap (λ (row : List ℕ). (counters_in row).oversize) (bump_same s f NotPassingSdu)
  flag_counted s Passing = ap (λ (row : List ℕ). (counters_in row).oversize) (bump_same s f Passing)
  flag_counted s NotPassing = ap (λ (row : List ℕ). (counters_in row).oversize) (bump_same s f NotPassing)
  flag_counted s RedFrames = ap (λ (row : List ℕ). (counters_in row).oversize) (bump_same s f RedFrames)

  module _ (P : Rows → Type 0) (all : Kept P) where
    kept_failed : (s : Rows) (flag : Bool) → ((counters s f).oversize ≡ true → flag ≡ true) → P s → P (sdu_failed s f flag)
    unfolding sdu_failed
    kept_failed s flag own h = all.marks _ flag (λ k. own (sym (flag_counted (bump s f Matching) NotPassingSdu ∙ flag_counted s Matching) ∙ k)) (all.counts _ NotPassingSdu (all.counts s Matching h))

    kept_passed : (s : Rows) → P s → P (sdu_passed s f)
    unfolding sdu_passed
    kept_passed s h = all.counts _ PassingSdu (all.counts s Matching h)

    kept_opened : (s : Rows) → P s → P (gate_passed s f)
    unfolding gate_passed
    kept_opened s = all.counts s Passing

    kept_shut : (s : Rows) → P s → P (gate_failed s f)
    unfolding gate_failed
    kept_shut s = all.counts s NotPassing

    kept_red : (s : Rows) → P s → P (red_counted s f)
    unfolding red_counted
    kept_red s = all.counts s RedFrames

    kept_late : (s : Rows) → P s → P (discard_counted s a.port)
    unfolding discard_counted
    kept_late s = all.ports s _

    pub frame_keeps : (s : Rows) → P s → P (sdu_filtered_of s lists a f row).bank
    frame_keeps =
        frame_along P P P (λ t. P t.bank)
        (record {
          stopped = λ s. kept_failed s _ (λ k. k);
          oversize = λ s set. kept_failed s _ (or_left _ set);
          fits = kept_passed;
          gates = all.gates;
          shut = λ s d k. kept_shut s;
          opens = kept_opened;
          meters = all.meters;
          exceeds = λ s d k. kept_red s;
          passes = λ s p h. h;
          admits = λ s i j at x p h. all.groups _ j at (all.schedulers s i x h);
          late = kept_late;
        })

-- ---- step 1, and refusal 9 before it

pub record Arrives (s : Rows) (lists : List ℕ) (a : ArrivalRecord) (found : Found) (Q : Told → Type 0) : Type 0 where
  pub back : ltb a.time (component s).clock ≡ true → Q (told s (Refused TimeGoesBack))
  pub unmatched : ltb a.time (component s).clock ≡ false → (p : Pass) → found ≡ None → Q (told (ticked s a) (Passed p))
  pub matched : ltb a.time (component s).clock ≡ false → (f : ℕ) (row : Filter) → found ≡ Some (f, row) → Q (sdu_filtered_of (ticked s a) lists a f row)

pub arrived_along : (s : Rows) (lists : List ℕ) (a : ArrivalRecord) (found : Found) (Q : Told → Type 0) → Arrives s lists a found Q → Q (arrival_of s lists a found)
unfolding arrival_of pass_of
arrived_along s lists a None Q all = if_by Q (ltb a.time (component s).clock) _ _ all.back (λ e. all.unmatched e _ refl)
arrived_along s lists a (Some (f, row)) Q all = if_by Q (ltb a.time (component s).clock) _ _ all.back (λ e. all.matched e f row refl)

-- what the clock and every store of a frame's path keep, an arrival keeps
pub arrived_keeps : (P : Rows → Type 0) (s : Rows) (lists : List ℕ) (a : ArrivalRecord) (found : Found) → P s → P (ticked s a) → ((f : ℕ) (row : Filter) → Kept lists a f row P) → P (arrival_of s lists a found).bank
arrived_keeps P s lists a found h h' all =
    arrived_along s lists a found (λ t. P t.bank) (record { back = λ e. h; unmatched = λ e p n. h'; matched = λ e f row n. frame_keeps lists a f row P (all f row) (ticked s a) h' })

-- ---- a call: refused as it is read, or a record of which `taken_of` says the rest

pub data Called (b : Bridge) (input : List ℕ) : Took → Type 0 where
  unread : (why : Refusal) → Called b input (refused_of b why)
  read : (r : Record) (used : ℕ) → length b.table ≡ filter_count → read_of input (started_of b.bank) ≡ Ok (r, used) → Called b input (taken_of b input r used)

module _ (b : Bridge) (input : List ℕ) where
  called_reading : length b.table ≡ filter_count → (rd : Reading) → read_of input (started_of b.bank) ≡ rd → Called b input (read_by b input rd)
  unfolding read_by
  called_reading full (Err why) e = unread why
  called_reading full (Ok (r, used)) e = read r used full e

  called_table : (t : Bool) → eqb (length b.table) filter_count ≡ t → Called b input (cond t (read_by b input (read_of input (started_of b.bank))) (refused_of b TableLength))
  called_table true e = called_reading (eqb-true _ _ e) _ refl
  called_table false e = unread TableLength

  pub called_way : Called b input (take_of b input)
  unfolding take_of
  called_way = called_table _ refl
