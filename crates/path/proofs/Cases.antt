-- The cases of each step of a frame's path, each from what tells it from the others.
use Rattle.std.specs.Prelude.{◌≡◌, ℕ, ◌<◌, ◌≤◌, Bool, true, false, not, ◌&&◌, ◌||◌, List, Some, None, ◌==◌, ◌≢◌, nat_lt}
use Rattle.std.proofs.Common.{ap, ◌∙◌, lt-ltb, le-ltb, eq-eqb, ne_eqb}
use Rattle.gate.specs.declared.Stepped.{Stepped as GateStepped}
use Rattle.gate.specs.declared.Outcome.{Outcome as GateOutcome}
use Rattle.meter.specs.declared.Metered.{Metered}
use Rattle.meter.specs.declared.Outcome.{Outcome as MeterOutcome}
use Rattle.scheduler.specs.declared.Scheduler.{Scheduler}
use Rattle.scheduler.specs.declared.Stepped.{Stepped}
use Rattle.scheduler.specs.declared.Outcome.{Outcome as SchedulerOutcome}
use Rattle.scheduler.specs.declared.Outcome.TheVariants.{Admitted}
use Rattle.record.specs.declared.ArrivalRecord.{ArrivalRecord}
use Rattle.record.specs.declared.Refusal.TheVariants.{TimeGoesBack}
use Rattle.bank.specs.declared.Counters.{Counters}
use Rattle.bank.specs.Meaning.{Rows, component, with_clock, counters, with_gate_state, with_meter_state, scheduler_group, with_scheduler_state, with_group_last}
use Rattle.filter.specs.declared.Filter.{Filter}
use Rattle.filter.specs.Meaning.{Found}
use Rattle.verdict.specs.declared.Drop.TheVariants as drop
use Rattle.verdict.specs.Meaning.{Verdict, Refused, Dropped, told}
use Rattle.path.specs.Meaning.{pass_of, sdu_failed, sdu_passed, offered_of, scheduled_by, scheduled_of, coloured_of, metered_by, metered_of, reached_of, gated_by, gated_of, sdu_filtered_of, arrival_of}

module _ (s : Rows) (a : ArrivalRecord) (row : Filter) (priority mark : ℕ) where
  pub scheduled_none : row.scheduler ≡ 255 → scheduled_of s a row priority mark ≡ told s (pass_of s priority mark None)
  unfolding scheduled_of
  scheduled_none h = rw (eq-eqb _ _ h)

  pub scheduled_by_lem : (row.scheduler ≢ 255) → (j : ℕ) → j ≡ scheduler_group s row.scheduler → (r : Stepped) → r ≡ offered_of s a row.scheduler j → (o : SchedulerOutcome) → r.outcome ≡ o
      → scheduled_of s a row priority mark ≡ scheduled_by s a row.scheduler j priority mark r.scheduler o
  unfolding scheduled_of
  scheduled_by_lem h j ej r er o eo = rw (ne_eqb _ _ h, ← ej, ← er, eo)

-- admitted: the scheduler is stored, then the group's last time, and the frame passes
pub scheduled_admitted : (s s₁ s₂ : Rows) (a : ArrivalRecord) (i j priority mark at : ℕ) (x : Scheduler) (v : Verdict) → s₁ ≡ with_scheduler_state s i x → s₂ ≡ with_group_last s₁ j at
    → v ≡ pass_of s₂ priority mark (Some at) → told s₂ v ≡ scheduled_by s a i j priority mark x (Admitted at)
unfolding scheduled_by
scheduled_admitted s s₁ s₂ a i j priority mark at x v e₁ e₂ ev =
    ap (λ (u : Verdict). told s₂ u) ev ∙ ap (λ (t : Rows). told t (pass_of t priority mark (Some at))) (e₂ ∙ ap (λ (t : Rows). with_group_last t j at) e₁)

module _ (s : Rows) (a : ArrivalRecord) (f : ℕ) (row : Filter) (priority : ℕ) where
  pub metered_none : row.meter ≡ 255 → metered_of s a f row priority ≡ scheduled_of s a row priority a.drop_eligible
  unfolding metered_of
  metered_none h = rw (eq-eqb _ _ h)

  pub metered_by_lem : (row.meter ≢ 255) → (r : Metered) → r ≡ coloured_of s a row.meter → (o : MeterOutcome) → r.outcome ≡ o
      → metered_of s a f row priority ≡ metered_by (with_meter_state s row.meter r.meter) a f row priority o
  unfolding metered_of
  metered_by_lem h r er o eo = rw (ne_eqb _ _ h, ← er, eo)

module _ (s : Rows) (lists : List ℕ) (a : ArrivalRecord) (f : ℕ) (row : Filter) where
  pub gated_by_lem : (r : GateStepped) → r ≡ reached_of s lists a row.gate → (o : GateOutcome) → r.outcome ≡ o → gated_of s lists a f row ≡ gated_by (with_gate_state s row.gate r.gate) a f row o
  unfolding gated_of
  gated_by_lem r er o eo = rw (← er, eo)

  abbrev blocks : Counters → Bool
  blocks c = row.oversize_block == 1 && c.oversize

  abbrev exceeds : Bool
  exceeds = not (row.max_sdu == 0) && nat_lt row.max_sdu a.msdu

  pub sdu_blocked : blocks (counters s f) ≡ true → sdu_filtered_of s lists a f row ≡ told (sdu_failed s f (counters s f).oversize) (Dropped drop.OversizeBlocked)
  unfolding sdu_filtered_of
  sdu_blocked h = rw h

  pub sdu_oversize : blocks (counters s f) ≡ false → exceeds ≡ true
      → sdu_filtered_of s lists a f row ≡ told (sdu_failed s f ((counters s f).oversize || row.oversize_block == 1)) (Dropped drop.Oversize)
  unfolding sdu_filtered_of
  sdu_oversize free h = rw (free, h)

  pub sdu_passes : blocks (counters s f) ≡ false → exceeds ≡ false → sdu_filtered_of s lists a f row ≡ gated_of (sdu_passed s f) lists a f row
  unfolding sdu_filtered_of
  sdu_passes free h = rw (free, h)

module _ (s : Rows) (lists : List ℕ) (a : ArrivalRecord) (found : Found) where
  -- the clock is set
  abbrev ticked : Rows
  ticked = with_clock s a.time

  pub arrival_back : a.time < (component s).clock → arrival_of s lists a found ≡ told s (Refused TimeGoesBack)
  unfolding arrival_of
  arrival_back h = rw (lt-ltb _ _ h)

  pub arrival_matched : (f : ℕ) (row : Filter) → (component s).clock ≤ a.time → found ≡ Some (f, row) → arrival_of s lists a found ≡ sdu_filtered_of ticked lists a f row
  unfolding arrival_of
  arrival_matched f row h k = rw (le-ltb _ _ h, k)

  pub arrival_unmatched : (component s).clock ≤ a.time → found ≡ None → arrival_of s lists a found ≡ told ticked (pass_of ticked a.priority a.drop_eligible None)
  unfolding arrival_of
  arrival_unmatched h k = rw (le-ltb _ _ h, k)
