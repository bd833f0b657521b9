-- Demand 2, one frame: whatever calls came before, and whatever was written into the lent table between them, the verdict of a frame is the one that document 01
-- gives, and no other. A meter or a scheduler that a frame reaches never refuses it, and its class is always that of the table.
use Rattle.std.specs.Prelude.{ℕ, ◌+◌, ◌^◌, ◌≤◌, ◌<◌, Bool, true, false, cond, List, [], ◌∷◌, ◌≢◌, ◌↔◌, ◌≡◌, refl, leb, length, Ok}
use Rattle.std.proofs.Common.{sym, subst, ◌∙◌, arith, leb-true, leb-false, eq-eqb}
use Rattle.std.proofs.Math.Path.{ap}
use Rattle.sizes.specs.Meaning.{filter_count}
use Rattle.logic.specs.Laws.{never, contrary}
use Rattle.class.specs.Meaning.{class_at, in_table}
use Rattle.class.proofs.Rules.{in_table_lem as table_of, class_below}
use Rattle.meter.specs.declared.Outcome.TheVariants.{YellowDropped, Red, OutOfRange, TooEarly}
use Rattle.meter.specs.Meaning.{filled_of, meter_number_of}
use Rattle.meter.specs.Range.{in_range_back}
use Rattle.meter.proofs.Laws.{colour_refused_3, colour_refused_9}
use Rattle.meter.proofs.Cases.{painted_stopped_lem}
use Rattle.scheduler.specs.declared.Outcome.TheVariants.{Refused as Unsound}
use Rattle.scheduler.specs.Meaning.{scheduler_number_of, scheduler_in_range}
use Rattle.scheduler.proofs.Range.{ranged_back}
use Rattle.scheduler.proofs.Cases.{step_dropped, step_admitted}
use Rattle.record.specs.declared.ArrivalRecord.{ArrivalRecord}
use Rattle.record.specs.declared.Refusal.TheVariants.{TableLength}
use Rattle.record.specs.Meaning.{Reading}
use Rattle.record.specs.Meaning.{read_of}
use Rattle.bank.specs.Meaning.{Rows, component, meter, scheduler, scheduler_group, group, burst}
use Rattle.filter.specs.declared.Filter.{Filter}
use Rattle.filter.specs.Meaning.{Fits}
use Rattle.verdict.specs.declared.Pass.{Pass}
use Rattle.verdict.specs.Meaning.{Verdict}
use Rattle.verdict.specs.Meaning.{Passed, Dropped}
use Rattle.verdict.specs.Meaning.{Told}
use Rattle.path.specs.Meaning.{internal_of, charged_of, coloured_of, metered_by, offered_of, scheduled_by, arrival_of}
use Rattle.stage.specs.Meaning.{Bridge, key_of, first_row, started_of, refused_of, taken_of, read_by, take_of}
use Rattle.promises.specs.Meaning.{Call, fresh, run_of}
use Rattle.promises.proofs.Refusals.Keeps.{answered_verdict}
use Rattle.promises.specs.Sound.Meaning.{Reached, begins, calls, InBounds, colour_at, eligible_at, latest_at, AtMeter, Marked, unmetered, green, yellow, AtScheduler, ColouredAs, ResidenceExceeded, EligibleAs, Given, unmatched, drop_6, drop_7, unscheduled, scheduled, drop_8}
use Rattle.promises.proofs.Sound.Steps.{Ready, in_table_lem, internal_high, coloured_is, length_high, scheduler_in_range_lem, meter_in_range_lem}
use Rattle.promises.proofs.Sound.Every.{some_given}
use Rattle.promises.proofs.Sound.Frames.{t₅, by_meter, step_5, by_offer, told_given}
use Rattle.promises.proofs.Sound.Calls.{arrival_ready, reached_sound}
use Rattle.record.specs.declared.Record.TheVariants as kind
use Rattle.verdict.specs.declared.Drop.TheVariants as drop

-- every history from fresh is among them
reached_on : (b : Bridge) (cs : List Call) → Reached b → Reached (run_of b cs)
unfolding run_of
reached_on b [] h = h
reached_on b (c ∷ cs) h = reached_on (take_of b c).after cs (calls h c)

pub reached_run : (cs : List Call) → Reached (run_of fresh cs)
reached_run cs = reached_on fresh cs begins

-- ---- the numbers that a bridge keeps are in document 01's bounds

pub in_bounds : {b : Bridge} → Reached b → InBounds b
in_bounds reached =
    let k = reached_sound reached in
    record { clock = k.clock; meters = λ i. (k.meters i).last_high; schedulers = λ i. (k.schedulers i).last_high; groups = λ i. (k.groups i).last_high }

-- ---- one frame

module _ (b : Bridge) (reached : Reached b) (whole : length b.table ≡ filter_count) (c : Call) (a : ArrivalRecord) (used : ℕ) (reads : read_of c (started_of b.bank) ≡ Ok (kind.Arrival a, used)) where
  ready : Ready b a
  ready = arrival_ready b c (reached_sound reached) a used reads

  abbrev verdict : Verdict
  verdict = (take_of b c).answer.verdict

  -- what the path does with it
  abbrev handled : Told
  handled = arrival_of b.bank b.lists a (first_row b Fits (key_of a))

  told : verdict ≡ handled.verdict
  unfolding take_of read_by taken_of
  told =
      ap (λ (t : Bool). (cond t (read_by b c (read_of c (started_of b.bank))) (refused_of b TableLength)).answer.verdict) (eq-eqb _ _ whole)
      ∙ ap (λ (r : Reading). (read_by b c r).answer.verdict) reads
      ∙ answered_verdict used handled.verdict

  -- each verdict is given exactly when document 01 says
  pub verdict_given : (v : Verdict) → Given b a v → verdict ≡ v
  verdict_given v g = told ∙ (told_given b a ready v g).0

  pub given_verdict : (v : Verdict) → verdict ≡ v → Given b a v
  given_verdict v e = let some = some_given b a in subst (Given b a) (sym (verdict_given some.0 some.1) ∙ e) some.1

  pub verdict_exactly : (v : Verdict) → (verdict ≡ v) ↔ Given b a v
  verdict_exactly v = (given_verdict v, verdict_given v)

  -- ---- drops 6, 7 and 8

  pub drop_six : (verdict ≡ Dropped drop.Yellow) ↔ ColouredAs b a YellowDropped
  drop_six = (λ e. inverse (given_verdict (Dropped drop.Yellow) e), λ h. verdict_given (Dropped drop.Yellow) (drop_6 h))
    where
      inverse : Given b a (Dropped drop.Yellow) → ColouredAs b a YellowDropped
      inverse (drop_6 h) = h

  pub drop_seven : (verdict ≡ Dropped drop.Red) ↔ ColouredAs b a Red
  drop_seven = (λ e. inverse (given_verdict (Dropped drop.Red) e), λ h. verdict_given (Dropped drop.Red) (drop_7 h))
    where
      inverse : Given b a (Dropped drop.Red) → ColouredAs b a Red
      inverse (drop_7 h) = h

  pub drop_eight : (verdict ≡ Dropped drop.Residence) ↔ ResidenceExceeded b a
  drop_eight = (λ e. inverse (given_verdict (Dropped drop.Residence) e), λ h. verdict_given (Dropped drop.Residence) (drop_8 h))
    where
      inverse : Given b a (Dropped drop.Residence) → ResidenceExceeded b a
      inverse (drop_8 h) = h

  -- ---- what a pass carries

  pub eligible_as_computed : (p : Pass) → verdict ≡ Passed p → p.timed ≡ true → EligibleAs b a p.eligible
  eligible_as_computed p e = by_case p (given_verdict (Passed p) e)
    where
      by_case : (p : Pass) → Given b a (Passed p) → p.timed ≡ true → EligibleAs b a p.eligible
      by_case p (unmatched h h') t = never t
      by_case p (unscheduled f row ipv mark h h') t = never t
      by_case p (scheduled f row ipv mark h h') t = record { filter = f; row = row; ipv = ipv; mark = mark; at_scheduler = h; computed = refl; in_time = h' }

  -- the table has a class for it, and it is that one
  pub class_of_table : (p : Pass) → verdict ≡ Passed p → (in_table p.priority (component b.bank).classes ≡ true) × (p.class ≡ class_at p.priority (component b.bank).classes)
  class_of_table p e = by_case p (given_verdict (Passed p) e)
    where
      by_case : (p : Pass) → Given b a (Passed p) → (in_table p.priority (component b.bank).classes ≡ true) × (p.class ≡ class_at p.priority (component b.bank).classes)
      by_case p (unmatched h h') = (in_table_lem b a ready a.priority ready.priority_high, refl)
      by_case p (unscheduled f row ipv mark h h') = (in_table_lem b a ready _ (internal_high b a ready ipv), refl)
      by_case p (scheduled f row ipv mark h h') = (in_table_lem b a ready _ (internal_high b a ready ipv), refl)

  -- and so it is one of those that there are
  pub class_below_classes : (p : Pass) → verdict ≡ Passed p → p.class < (component b.bank).classes
  class_below_classes p e =
      let h = class_of_table p e in
      omega (arith, h.1, class_below p.priority (component b.bank).classes (table_of p.priority (component b.bank).classes h.0))

  -- and no number in it is out of document 01's bounds
  pub pass_in_bounds : (p : Pass) → verdict ≡ Passed p → (p.priority ≤ 7) × (p.class < 8) × (p.drop_mark ≤ 1) × (p.eligible ≤ 2 ^ 62 + 1_000_000_000)
  pass_in_bounds p e =
      let class : p.class < 8 = omega (arith, class_below_classes p e, ready.sound.classes) in
      let others = by_case p (given_verdict (Passed p) e) in
      (others.0, class, others.1.0, others.1.1)
    where
      mark_high : (row : Filter) (mark : ℕ) → Marked b a row mark → mark ≤ 1
      mark_high row mark (unmetered h) = ready.mark_high
      mark_high row mark (green h h') = ready.mark_high
      mark_high row mark (yellow h h') = omega arith

      by_case : (p : Pass) → Given b a (Passed p) → (p.priority ≤ 7) × ((p.drop_mark ≤ 1) × (p.eligible ≤ 2 ^ 62 + 1_000_000_000))
      by_case p (unmatched h h') = (ready.priority_high, (ready.mark_high, omega arith))
      by_case p (unscheduled f row ipv mark h h') = (internal_high b a ready ipv, (mark_high row mark h.marked, omega arith))
      by_case p (scheduled f row ipv mark h h') =
          (internal_high b a ready ipv, (mark_high row mark h.past_meter.marked, omega (arith, h', ready.time_high, (ready.sound.groups (scheduler_group b.bank row.scheduler)).residence_high)))

  -- ---- no step refuses a frame that comes to it

  pub meter_refuses_none : (f : ℕ) (row : Filter) (ipv : ℕ) → AtMeter b a f row ipv → ((coloured_of b.bank a row.meter).outcome ≢ OutOfRange) × ((coloured_of b.bank a row.meter).outcome ≢ TooEarly)
  meter_refuses_none f row ipv m = (
    λ q. contrary _ (in_range_back _ _ _ (meter_in_range_lem b a ready row.meter)) (colour_refused_3 (meter b.bank row.meter) a.time _ _ (ap meter_number_of q)).1,
    λ q. let early = colour_refused_9 (meter b.bank row.meter) a.time _ _ (ap meter_number_of q) in omega (arith, early.1.1, m.at_gate.matched.timely, (ready.sound.meters row.meter).last_high),
  )

  -- the path goes on by that very answer
  pub meter_on_path : (f : ℕ) (row : Filter) (ipv : ℕ) → AtMeter b a f row ipv → row.meter ≢ 255 → (s : Rows) × (handled ≡ metered_by s a f row (internal_of ipv a.priority) (coloured_of b.bank a row.meter).outcome)
  meter_on_path f row ipv m n = (t₅ b a ready f row, by_meter b a ready f row ipv m n _ (ap (λ x. x.outcome) (sym (coloured_is b a ready m.at_gate.matched.timely row.meter))))

  module _ (f : ℕ) (row : Filter) (ipv mark : ℕ) (there : AtScheduler b a f row ipv mark) where
    abbrev i : ℕ
    i = row.scheduler

    abbrev j : ℕ
    j = scheduler_group b.bank i

    pub length_within_burst : (charged_of b.bank a).0 ≤ (burst b.bank i).0
    length_within_burst = length_high b a ready f row ipv mark there

    pub scheduler_refuses_none : (offered_of b.bank a i j).outcome ≢ Unsound
    scheduler_refuses_none = by_limit (leb (eligible_at b a i) (latest_at b a i)) refl
      where
        test : scheduler_in_range (scheduler b.bank i) (group b.bank j).last (group b.bank j).residence a.time (charged_of b.bank a) ≡ true
        test = ranged_back _ _ _ _ _ (scheduler_in_range_lem b a ready f row ipv mark there)

        by_limit : (t : Bool) → leb (eligible_at b a i) (latest_at b a i) ≡ t → (offered_of b.bank a i j).outcome ≢ Unsound
        by_limit true l q =
            let e = ap (λ x. scheduler_number_of x.outcome) (step_admitted _ _ _ _ _ test (eligible_at b a i) refl _ (leb-true _ _ l) refl) in
            omega (arith, e, ap scheduler_number_of q)
        by_limit false l q =
            let e = ap (λ x. scheduler_number_of x.outcome) (step_dropped _ _ _ _ _ test (eligible_at b a i) refl (leb-false _ _ l)) in
            omega (arith, e, ap scheduler_number_of q)

    pub scheduler_on_path : (s : Rows) × (handled ≡ scheduled_by s a i j (internal_of ipv a.priority) mark (offered_of b.bank a i j).scheduler (offered_of b.bank a i j).outcome)
    scheduler_on_path =
        let p = step_5 b a ready f row ipv mark there.past_meter.at_meter there.past_meter.marked in
        (p.bank, p.goes ∙ by_offer b a ready f row ipv mark there p.bank p.on_its_way (offered_of b.bank a i j) refl _ refl)

-- "If the red flag stands: red"
pub flag_red : (b : Bridge) (a : ArrivalRecord) (i : ℕ) → (meter b.bank i).red_flag ≡ true → colour_at b a i ≡ Red
unfolding filled_of
flag_red b a i e = ap (λ x. x.outcome) (painted_stopped_lem (filled_of (meter b.bank i) a.time) _ _ e)
