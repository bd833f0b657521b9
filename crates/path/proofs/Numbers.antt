-- One number for one drop: where a gate, a meter or a scheduler stops a frame, the verdict is a drop to which `drop_number_of` gives the number that the
-- outcome has in its own crate. (A meter or a scheduler that refuses its numbers, with 3 or 9, stops no frame of document 01.)
use Rattle.std.specs.Prelude.{◌≡◌, ℕ, ◌⊎◌, List, ◌≢◌, refl}
use Rattle.std.proofs.Common.{inl, inr, arith, ne_eqb}
use Rattle.gate.specs.declared.Outcome.{Outcome as GateOutcome}
use Rattle.gate.specs.declared.Outcome.TheVariants.{Passed as Open, Blocked, Closed, TooManyOctets}
use Rattle.gate.specs.Meaning.{gate_number_of}
use Rattle.meter.specs.declared.Outcome.{Outcome as MeterOutcome}
use Rattle.meter.specs.declared.Outcome.TheVariants.{Green, Yellow, YellowDropped, Red, OutOfRange, TooEarly}
use Rattle.meter.specs.Meaning.{meter_number_of}
use Rattle.scheduler.specs.declared.Scheduler.{Scheduler}
use Rattle.scheduler.specs.declared.Outcome.{Outcome as SchedulerOutcome}
use Rattle.scheduler.specs.declared.Outcome.TheVariants.{Admitted, Dropped as Late, Refused as Unsound}
use Rattle.scheduler.specs.Meaning.{scheduler_number_of}
use Rattle.record.specs.declared.ArrivalRecord.{ArrivalRecord}
use Rattle.bank.specs.Meaning.{Rows, scheduler_group}
use Rattle.filter.specs.declared.Filter.{Filter}
use Rattle.verdict.specs.declared.Drop.{Drop}
use Rattle.verdict.specs.declared.Drop.TheVariants as drop
use Rattle.verdict.specs.Meaning.{Verdict, Dropped, drop_number_of}
use Rattle.path.specs.Meaning.{offered_of, scheduled_by, scheduled_of, coloured_of, metered_by, metered_of, reached_of, gated_by, gated_of}

-- the verdict is a drop, and n its number
pub record DropsWith (v : Verdict) (n : ℕ) : Type 0 where
  pub why : Drop
  pub dropped : v ≡ Dropped why
  pub number : drop_number_of why ≡ n

-- ---- by an outcome

gate_drops : (s : Rows) (a : ArrivalRecord) (f : ℕ) (row : Filter) (o : GateOutcome) → (gate_number_of o ≢ 0) → DropsWith (gated_by s a f row o).verdict (gate_number_of o)
unfolding gated_by
gate_drops s a f row (Open ipv) h = absurd (h refl)
gate_drops s a f row Blocked h = record { why = drop.GateBlocked; dropped = refl; number = refl }
gate_drops s a f row Closed h = record { why = drop.GateClosed; dropped = refl; number = refl }
gate_drops s a f row TooManyOctets h = record { why = drop.GateOctets; dropped = refl; number = refl }

meter_drops : (s : Rows) (a : ArrivalRecord) (f : ℕ) (row : Filter) (priority : ℕ) (o : MeterOutcome) (n : ℕ) → (n ≡ 6) ⊎ (n ≡ 7) → meter_number_of o ≡ n → DropsWith (metered_by s a f row priority o).verdict n
unfolding metered_by
meter_drops s a f row priority YellowDropped n h e = record { why = drop.Yellow; dropped = refl; number = e }
meter_drops s a f row priority Red n h e = record { why = drop.Red; dropped = refl; number = e }
meter_drops s a f row priority Green n (inl k) e = absurd (omega arith)
meter_drops s a f row priority Green n (inr k) e = absurd (omega arith)
meter_drops s a f row priority Yellow n (inl k) e = absurd (omega arith)
meter_drops s a f row priority Yellow n (inr k) e = absurd (omega arith)
meter_drops s a f row priority OutOfRange n (inl k) e = absurd (omega arith)
meter_drops s a f row priority OutOfRange n (inr k) e = absurd (omega arith)
meter_drops s a f row priority TooEarly n (inl k) e = absurd (omega arith)
meter_drops s a f row priority TooEarly n (inr k) e = absurd (omega arith)

scheduler_drops : (s : Rows) (a : ArrivalRecord) (i j priority mark : ℕ) (x : Scheduler) (o : SchedulerOutcome) → scheduler_number_of o ≡ 8 → DropsWith (scheduled_by s a i j priority mark x o).verdict (scheduler_number_of o)
unfolding scheduled_by
scheduler_drops s a i j priority mark x (Admitted at) e = absurd (omega arith)
scheduler_drops s a i j priority mark x Late e = record { why = drop.Residence; dropped = refl; number = refl }
scheduler_drops s a i j priority mark x Unsound e = absurd (omega arith)

-- ---- along the path

-- 3, 4 and 5
pub gate_number : (s : Rows) (lists : List ℕ) (a : ArrivalRecord) (f : ℕ) (row : Filter)
    → (let n = gate_number_of (reached_of s lists a row.gate).outcome in (n ≢ 0) → DropsWith (gated_of s lists a f row).verdict n)
unfolding gated_of
gate_number s lists a f row h = gate_drops _ a f row (reached_of s lists a row.gate).outcome h

-- 6 and 7
pub meter_number : (s : Rows) (a : ArrivalRecord) (f : ℕ) (row : Filter) (priority : ℕ) → (row.meter ≢ 255)
    → (let n = meter_number_of (coloured_of s a row.meter).outcome in (n ≡ 6) ⊎ (n ≡ 7) → DropsWith (metered_of s a f row priority).verdict n)
unfolding metered_of
meter_number s a f row priority named h = rw (ne_eqb _ _ named) (meter_drops _ a f row priority (coloured_of s a row.meter).outcome _ h refl)

-- 8
pub scheduler_number : (s : Rows) (a : ArrivalRecord) (row : Filter) (priority mark : ℕ) → (row.scheduler ≢ 255)
    → (let n = scheduler_number_of (offered_of s a row.scheduler (scheduler_group s row.scheduler)).outcome in n ≡ 8 → DropsWith (scheduled_of s a row priority mark).verdict n)
unfolding scheduled_of
scheduler_number s a row priority mark named h = rw (ne_eqb _ _ named) (scheduler_drops s a row.scheduler _ priority mark _ (offered_of s a row.scheduler (scheduler_group s row.scheduler)).outcome h)
