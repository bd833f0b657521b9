-- A frame through the steps: in each of document 01's cases it is told that very verdict, and the numbers of the bank stay sound.
use Rattle.scheduler.specs.Meaning.{scheduler_in_range}
use Rattle.std.specs.Prelude.{ℕ, ◌+◌, ◌%◌, ◌≤◌, ◌<◌, ◌^◌, Bool, not, ◌&&◌, List, ◌≢◌, ◌≡◌, refl, eqb, ltb, Some, None}
use Rattle.std.proofs.Math.Bool.{true, false}
use Rattle.std.proofs.Common.{sym, subst, ◌∙◌, arith, eqb-true, ne_eqb, le-ltb, lt-ltb}
use Rattle.std.proofs.Math.Path.{ap}
use Rattle.std.proofs.lemmas.Bool.{eqb-false}
use Rattle.logic.specs.Laws.{by_test}
use Rattle.sizes.specs.Meaning.{group_count}
use Rattle.bucket.specs.Meaning.{grains}
use Rattle.bucket.specs.declared.Octets.{Octets}
use Rattle.gate.specs.declared.Stepped.{Stepped as GateStepped}
use Rattle.gate.specs.declared.Outcome.{Outcome as GateOutcome}
use Rattle.gate.specs.declared.Outcome.TheVariants.{Passed as Open, Blocked, Closed, TooManyOctets}
use Rattle.meter.specs.declared.Meter.{Meter}
use Rattle.meter.specs.declared.Metered.{Metered}
use Rattle.meter.specs.declared.Outcome.{Outcome}
use Rattle.meter.specs.declared.Outcome.TheVariants.{Green, Yellow, YellowDropped, Red}
use Rattle.meter.specs.Meaning.{meter_holding, colour_of}
use Rattle.meter.specs.Range.{InRange}
use Rattle.meter.proofs.Laws.{colour_sound, colour_settings, colour_last}
use Rattle.scheduler.specs.declared.Scheduler.{Scheduler}
use Rattle.scheduler.specs.declared.Stepped.{Stepped}
use Rattle.scheduler.specs.declared.Outcome.{Outcome as SchedulerOutcome}
use Rattle.scheduler.specs.declared.Outcome.TheVariants.{Admitted, Dropped as Late}
use Rattle.scheduler.proofs.Range.{ranged_back}
use Rattle.scheduler.proofs.Cases.{step_dropped, step_admitted}
use Rattle.scheduler.proofs.Larger.{in_range_again}
use Rattle.record.specs.declared.ArrivalRecord.{ArrivalRecord}
use Rattle.bank.specs.Meaning.{Rows, with_row, component_row, port_row, counters_row, gate_row, gate_state_row, meter_row, meter_state_row, group_row, scheduler_row, gates_from, meters_from, groups_from, counters_from, is_set, word, component, with_clock, counters, meter, with_meter_state, with_gate_state, scheduler, scheduler_group, with_scheduler_state, group, with_group_last}
use Rattle.bank.proofs.Rows.{row_other}
use Rattle.bank.proofs.Laws.{clock_same, component_frame, counters_frame, meter_with}
use Rattle.filter.specs.declared.Filter.{Filter}
use Rattle.filter.specs.Meaning.{Fits}
use Rattle.verdict.specs.Meaning.{Verdict}
use Rattle.verdict.specs.Meaning.{Passed, Dropped}
use Rattle.verdict.specs.Meaning.{Told}
use Rattle.path.specs.Meaning.{internal_of, sdu_passed, sdu_failed, gate_passed, gate_failed, red_counted, discard_counted, charged_of, offered_of, scheduled_by, scheduled_of, coloured_of, metered_by, metered_of, reached_of, gated_by, gated_of, sdu_filtered_of, arrival_of}
use Rattle.path.proofs.Cases.{scheduled_none, scheduled_by_lem, metered_none, metered_by_lem, gated_by_lem, sdu_blocked, sdu_oversize, sdu_passes, arrival_back, arrival_matched, arrival_unmatched}
use Rattle.stage.specs.Meaning.{Bridge, key_of, first_row}
use Rattle.promises.specs.Sound.Meaning.{Matched, AtGate, AtMeter, Marked, unmetered, green, yellow, AtScheduler, Given, goes_back, unmatched, drop_1, drop_2, drop_3, drop_4, drop_5, drop_6, drop_7, unscheduled, scheduled, drop_8, eligible_at, latest_at, colour_at, pass_at}
use Rattle.promises.proofs.Sound.Bounds.{Sound, MeterFilled}
use Rattle.promises.proofs.Sound.Stores.{aside_sound, clock_sound, meter_state_sound, discarded_sound, group_last_sound, scheduler_state_sound}
use Rattle.promises.proofs.Sound.Steps.{Ready, pass_is, internal_high, coloured_is, scheduler_in_range_lem}
use Rattle.verdict.specs.declared.Drop.TheVariants as drop

-- ---- the tests of step 2, from what document 01 says

unblocked_test : (block : ℕ) (flag : Bool) → (block ≡ 1 → flag ≡ false) → (eqb block 1 && flag) ≡ false
unblocked_test block flag h = by_test (eqb block 1) (λ e. rw (e, h (eqb-true block 1 e))) (λ e. rw e)

within_test : (size msdu : ℕ) → (size ≢ 0 → msdu ≤ size) → (not (eqb size 0) && ltb size msdu) ≡ false
within_test size msdu h = by_test (eqb size 0) (λ e. rw e) (λ e. rw (e, le-ltb size msdu (h (eqb-false size 0 e))))

blocked_test : (block : ℕ) (flag : Bool) → block ≡ 1 → flag ≡ true → (eqb block 1 && flag) ≡ true
blocked_test block flag e e' = rw (e, e')

exceeds_test_lem : (size msdu : ℕ) → size ≢ 0 → size < msdu → (not (eqb size 0) && ltb size msdu) ≡ true
exceeds_test_lem size msdu n h = rw (ne_eqb size 0 n, lt-ltb size msdu h)

-- a meter that has its settings from m is stored as it is
settled : (clock : ℕ) (m x : Meter) → x ≡ meter_holding m x.committed x.excess x.last x.red_flag → MeterFilled clock x → MeterFilled clock (meter_with m x)
settled clock m x e h = subst (λ (y : Meter). MeterFilled clock (meter_with m y)) (sym e) (subst (MeterFilled clock) e h)

-- ---- the bank on the way of a frame: sound, the clock at the arrival, and all as the frame found it but the rows before `from` and the counters

pub record OnWay (a : ArrivalRecord) (s : Rows) (from : ℕ) (t : Rows) : Type 0 where
  pub sound : Sound t
  pub clock : (component t).clock ≡ a.time
  pub classes : (component t).classes ≡ (component s).classes
  pub ports : (i : ℕ) → t (port_row i) ≡ s (port_row i)
  pub rows : (q : ℕ) → from ≤ q → q < counters_from → t q ≡ s q

module _ (a : ArrivalRecord) (s : Rows) where
  -- a store into a row of a gate or of counters
  goes_on : (from next : ℕ) (t : Rows) (r : ℕ) (vs : List ℕ) → OnWay a s from t → from ≤ next → component_row < r → gates_from ≤ r → (meters_from ≤ r → counters_from ≤ r) → (next ≤ r → counters_from ≤ r) → OnWay a s next (with_row t r vs)
  goes_on from next t r vs w l low past apart beyond = record {
    sound = aside_sound t w.sound (with_row t r vs) (λ q m n. row_other t r vs q (λ e. omega (arith, n, past, apart (omega (arith, e, past, m (omega (arith, e, past)))), e)));
    clock = ap (λ x. x.clock) (component_frame t r vs (omega (arith, low))) ∙ w.clock;
    classes = ap (λ x. x.classes) (component_frame t r vs (omega (arith, low))) ∙ w.classes;
    ports = λ i. row_other t r vs (port_row i) (λ e. omega (arith, past, e)) ∙ w.ports i;
    rows = λ q m n. row_other t r vs q (λ e. omega (arith, n, e, beyond (omega (arith, m, e)))) ∙ w.rows q (omega (arith, l, m)) n;
  }

  counted : (from : ℕ) (t : Rows) (f : ℕ) (vs : List ℕ) → OnWay a s from t → OnWay a s from (with_row t (counters_row f) vs)
  counted from t f vs w = goes_on from from t (counters_row f) vs w (omega arith) (omega arith) (omega arith) (λ l. omega arith) (λ l. omega arith)

-- ---- the steps, each from where the frame comes to it

module _ (b : Bridge) (a : ArrivalRecord) (ready : Ready b a) where
  abbrev s : Rows
  s = b.bank

  abbrev lists : List ℕ
  lists = b.lists

  abbrev pub arrived : Told
  arrived = arrival_of s lists a (first_row b Fits (key_of a))

  -- what a meter is given
  abbrev msdu : Octets
  msdu = record { 0 = a.msdu }

  abbrev eligible : Bool
  eligible = is_set a.drop_eligible

  -- the clock stands at the arrival
  abbrev t₁ : Rows
  t₁ = with_clock s a.time

  on_way : (component s).clock ≤ a.time → OnWay a s gates_from t₁
  on_way timely = record {
    sound = clock_sound s ready.sound a.time timely ready.time_high;
    clock = ap (λ x. x.clock) (clock_same s a.time);
    classes = ap (λ x. x.classes) (clock_same s a.time);
    ports = λ i. row_other s component_row _ (port_row i) (omega arith);
    rows = λ q l m. row_other s component_row _ q (omega (arith, l));
  }

  module _ (f : ℕ) (row : Filter) where
    -- ---- step 2

    step_2 : Matched b a f row → arrived ≡ sdu_filtered_of t₁ lists a f row
    step_2 m = arrival_matched s lists a _ f row m.timely m.first

    same_flag : (counters t₁ f).oversize ≡ (counters s f).oversize
    same_flag = ap (λ x. x.oversize) (counters_frame s f component_row _ (omega arith))

    unblocked_there : (row.oversize_block ≡ 1 → (counters s f).oversize ≡ false) → (eqb row.oversize_block 1 && (counters t₁ f).oversize) ≡ false
    unblocked_there h = ap (λ (flag : Bool). eqb row.oversize_block 1 && flag) same_flag ∙ unblocked_test row.oversize_block (counters s f).oversize h

    failed_sound : (component s).clock ≤ a.time → (flag : Bool) → Sound (sdu_failed t₁ f flag)
    unfolding sdu_failed
    failed_sound timely flag = (counted a s gates_from _ f _ (counted a s gates_from _ f _ (counted a s gates_from t₁ f _ (on_way timely)))).sound

    -- ---- step 3

    abbrev t₂ : Rows
    t₂ = sdu_passed t₁ f

    at_gate : AtGate b a f row → OnWay a s gates_from t₂
    unfolding sdu_passed
    at_gate g = counted a s gates_from _ f _ (counted a s gates_from t₁ f _ (on_way g.matched.timely))

    step_3 : AtGate b a f row → arrived ≡ gated_of t₂ lists a f row
    step_3 g = step_2 g.matched ∙ sdu_passes t₁ lists a f row (unblocked_there g.unblocked) (within_test row.max_sdu a.msdu g.within)

    abbrev gate_answer_lem : GateStepped
    gate_answer_lem = reached_of t₂ lists a row.gate

    same_gate : AtGate b a f row → gate_answer_lem ≡ reached_of s lists a row.gate
    same_gate g = rw ((at_gate g).rows (gate_row row.gate) (omega arith) (omega arith), (at_gate g).rows (gate_state_row row.gate) (omega arith) (omega arith)) refl

    abbrev t₃ : Rows
    t₃ = with_gate_state t₂ row.gate gate_answer_lem.gate

    past_gate : AtGate b a f row → OnWay a s meters_from t₃
    past_gate g = goes_on a s gates_from meters_from t₂ (gate_state_row row.gate) _ (at_gate g) (omega arith) (omega arith) (omega arith) (λ l. absurd (omega (arith, l))) (λ l. absurd (omega (arith, l)))

    by_gate : (g : AtGate b a f row) (o : GateOutcome) → (reached_of s lists a row.gate).outcome ≡ o → arrived ≡ gated_by t₃ a f row o
    by_gate g o e = step_3 g ∙ gated_by_lem t₂ lists a f row gate_answer_lem refl o (ap (λ x. x.outcome) (same_gate g) ∙ e)

    shut_sound : AtGate b a f row → Sound (gate_failed t₃ f)
    unfolding gate_failed
    shut_sound g = (counted a s meters_from t₃ f _ (past_gate g)).sound

    -- ---- step 4

    abbrev t₄ : Rows
    t₄ = gate_passed t₃ f

    at_meter : AtGate b a f row → OnWay a s meters_from t₄
    unfolding gate_passed
    at_meter g = counted a s meters_from t₃ f _ (past_gate g)

    step_4 : (ipv : ℕ) → AtMeter b a f row ipv → arrived ≡ metered_of t₄ a f row (internal_of ipv a.priority)
    unfolding gated_by
    step_4 ipv m = by_gate m.at_gate (Open ipv) m.opens

    abbrev meter_answer : Metered
    meter_answer = coloured_of t₄ a row.meter

    same_meter : AtGate b a f row → meter t₄ row.meter ≡ meter s row.meter
    same_meter g = rw ((at_meter g).rows (meter_row row.meter) (omega arith) (omega arith), (at_meter g).rows (meter_state_row row.meter) (omega arith) (omega arith)) refl

    colour_is : AtGate b a f row → meter_answer.outcome ≡ colour_at b a row.meter
    colour_is g = ap (λ (m : Meter). (colour_of m a.time msdu eligible).outcome) (same_meter g) ∙ ap (λ x. x.outcome) (coloured_is b a ready g.matched.timely row.meter)

    abbrev pub t₅ : Rows
    t₅ = with_meter_state t₄ row.meter meter_answer.meter

    filled : (g : AtGate b a f row) → MeterFilled (component t₄).clock (meter_with (meter t₄ row.meter) meter_answer.meter)
    filled g =
        let m = (at_meter g).sound.meters row.meter in
        let ranged : InRange (meter t₄ row.meter) a.time msdu = record { sound = m.sound; time_high = ready.time_high; msdu_high = ready.msdu_high } in
        let last = colour_last (meter t₄ row.meter) a.time msdu eligible ranged (omega (arith, m.last_high, (at_meter g).clock)) in
        settled (component t₄).clock (meter t₄ row.meter) meter_answer.meter (colour_settings (meter t₄ row.meter) a.time msdu eligible)
        (record { sound = colour_sound (meter t₄ row.meter) a.time msdu eligible m.sound; last_high = omega (arith, last, (at_meter g).clock) })

    past_meter : AtGate b a f row → OnWay a s groups_from t₅
    past_meter g =
        let w = at_meter g in
        record {
          sound = meter_state_sound t₄ w.sound row.meter meter_answer.meter (filled g);
          clock = ap (λ x. x.clock) (component_frame t₄ (meter_state_row row.meter) _ (omega arith)) ∙ w.clock;
          classes = ap (λ x. x.classes) (component_frame t₄ (meter_state_row row.meter) _ (omega arith)) ∙ w.classes;
          ports = λ i. row_other t₄ (meter_state_row row.meter) _ (port_row i) (omega arith) ∙ w.ports i;
          rows = λ q l m. row_other t₄ (meter_state_row row.meter) _ q (omega (arith, l)) ∙ w.rows q (omega (arith, l)) m;
        }

    pub by_meter : (ipv : ℕ) (m : AtMeter b a f row ipv) → row.meter ≢ 255 → (o : Outcome) → colour_at b a row.meter ≡ o → arrived ≡ metered_by t₅ a f row (internal_of ipv a.priority) o
    by_meter ipv m n o e = step_4 ipv m ∙ metered_by_lem t₄ a f row (internal_of ipv a.priority) n meter_answer refl o (colour_is m.at_gate ∙ e)

    red_sound : AtGate b a f row → Sound (red_counted t₅ f)
    unfolding red_counted
    red_sound g = (counted a s groups_from t₅ f _ (past_meter g)).sound

  -- ---- step 5

  -- the bank that the frame comes with
  pub record Past (row : Filter) (priority mark : ℕ) : Type 0 where
    pub bank : Rows
    pub on_its_way : OnWay a s groups_from bank
    pub goes : arrived ≡ scheduled_of bank a row priority mark

  pub step_5 : (f : ℕ) (row : Filter) (ipv mark : ℕ) → AtMeter b a f row ipv → Marked b a row mark → Past row (internal_of ipv a.priority) mark
  unfolding metered_by
  step_5 f row ipv mark m (unmetered e) =
      let w = at_meter f row m.at_gate in
      record {
        bank = t₄ f row;
        on_its_way = record { sound = w.sound; clock = w.clock; classes = w.classes; ports = w.ports; rows = λ q l. w.rows q (omega (arith, l)) };
        goes = step_4 f row ipv m ∙ metered_none (t₄ f row) a f row (internal_of ipv a.priority) e;
      }
  step_5 f row ipv mark m (green n e) = record { bank = t₅ f row; on_its_way = past_meter f row m.at_gate; goes = by_meter f row ipv m n Green e }
  step_5 f row ipv mark m (yellow n e) = record { bank = t₅ f row; on_its_way = past_meter f row m.at_gate; goes = by_meter f row ipv m n Yellow e }

  abbrev Answers : Verdict → Told → Type 0
  Answers v t = (t.verdict ≡ v) × Sound t.bank

  module _ (f : ℕ) (row : Filter) (ipv mark : ℕ) (there : AtScheduler b a f row ipv mark) (t : Rows) (w : OnWay a s groups_from t) where
    abbrev i : ℕ
    i = row.scheduler

    abbrev j : ℕ
    j = scheduler_group s i

    abbrev priority : ℕ
    priority = internal_of ipv a.priority

    same_scheduler : t (scheduler_row i) ≡ s (scheduler_row i)
    same_scheduler = w.rows (scheduler_row i) (omega arith) (omega arith)

    same_offer : offered_of t a i j ≡ offered_of s a i j
    same_offer = rw (same_scheduler, w.rows (group_row j) (omega arith) (omega arith), w.ports a.port) refl

    in_range : scheduler_in_range (scheduler s i) (group s j).last (group s j).residence a.time (charged_of s a) ≡ true
    in_range = ranged_back (scheduler s i) (group s j).last (group s j).residence a.time (charged_of s a) (scheduler_in_range_lem b a ready f row ipv mark there)

    pub by_offer : (r : Stepped) → offered_of s a i j ≡ r → (o : SchedulerOutcome) → r.outcome ≡ o → scheduled_of t a row priority mark ≡ scheduled_by t a i j priority mark r.scheduler o
    by_offer r e o e' = scheduled_by_lem t a row priority mark there.named j (ap (λ (u : List ℕ). word u 1 % group_count) (sym same_scheduler)) r (sym (same_offer ∙ e)) o e'

    -- the frame is eligible at `at`
    admitted_answers : (x : Scheduler) (at : ℕ) → x.level ≤ grains (scheduler s i).burst.0 → x.last ≤ 2 ^ 62 + 1_000_000_000 → at ≤ 2 ^ 62 + 1_000_000_000 → Answers (Passed (pass_at b priority mark (Some at))) (scheduled_by t a i j priority mark x (Admitted at))
    unfolding scheduled_by
    admitted_answers x at level last high =
        let t₆ : Rows = with_scheduler_state t i x in
        let t₇ : Rows = with_group_last t₆ j at in
        let level' : x.level ≤ grains (scheduler t i).burst.0 = rw same_scheduler level in
        let classes : (component t₇).classes ≡ (component s).classes = ap (λ x. x.classes) (component_frame t₆ (group_row j) _ (omega arith) ∙ component_frame t (scheduler_row i) _ (omega arith)) ∙ w.classes in
        (pass_is b a ready t₇ classes priority mark (Some at) (internal_high b a ready ipv), group_last_sound t₆ (scheduler_state_sound t w.sound i x level' last) j at high)

    late_answers : (x : Scheduler) → Answers (Dropped drop.Residence) (scheduled_by t a i j priority mark x Late)
    unfolding scheduled_by discard_counted
    late_answers x = (refl, discarded_sound t w.sound a.port _)

    pub scheduled_answers : eligible_at b a i ≤ latest_at b a i → Answers (Passed (pass_at b priority mark (Some (eligible_at b a i)))) (scheduled_of t a row priority mark)
    scheduled_answers h =
        let k = scheduler_in_range_lem b a ready f row ipv mark there in
        let again = in_range_again (scheduler s i) (group s j).last (group s j).residence a.time (charged_of s a) k (eligible_at b a i) h in
        rw (by_offer _ (step_admitted (scheduler s i) (group s j).last (group s j).residence a.time (charged_of s a) in_range (eligible_at b a i) refl _ h refl) (Admitted (eligible_at b a i)) refl)
        (admitted_answers _ (eligible_at b a i) again.0 again.1 again.1)

    pub discarded_answers : latest_at b a i < eligible_at b a i → Answers (Dropped drop.Residence) (scheduled_of t a row priority mark)
    discarded_answers h =
        rw (by_offer _ (step_dropped (scheduler s i) (group s j).last (group s j).residence a.time (charged_of s a) in_range (eligible_at b a i) refl h) Late refl)
        (late_answers _)

  -- ---- in each case the frame is told that verdict

  pub told_given : (v : Verdict) → Given b a v → Answers v arrived
  unfolding gated_by metered_by
  told_given v (goes_back h) = rw (arrival_back s lists a _ h) (refl, ready.sound)
  told_given v (unmatched timely e) =
      let w = on_way timely in
      rw (arrival_unmatched s lists a _ timely e) (pass_is b a ready t₁ w.classes a.priority a.drop_eligible None ready.priority_high, w.sound)
  told_given v (drop_1 f row m block flag) =
      rw (step_2 f row m, sdu_blocked t₁ lists a f row (blocked_test row.oversize_block (counters t₁ f).oversize block (same_flag f row ∙ flag))) (refl, failed_sound f row m.timely _)
  told_given v (drop_2 f row m free some larger) =
      rw (step_2 f row m, sdu_oversize t₁ lists a f row (unblocked_there f row free) (exceeds_test_lem row.max_sdu a.msdu some larger)) (refl, failed_sound f row m.timely _)
  told_given v (drop_3 f row g e) = rw (by_gate f row g Blocked e) (refl, shut_sound f row g)
  told_given v (drop_4 f row g e) = rw (by_gate f row g Closed e) (refl, shut_sound f row g)
  told_given v (drop_5 f row g e) = rw (by_gate f row g TooManyOctets e) (refl, shut_sound f row g)
  told_given v (drop_6 m) = rw (by_meter m.filter m.row m.ipv m.at_meter m.named YellowDropped m.coloured) (refl, red_sound m.filter m.row m.at_meter.at_gate)
  told_given v (drop_7 m) = rw (by_meter m.filter m.row m.ipv m.at_meter m.named Red m.coloured) (refl, red_sound m.filter m.row m.at_meter.at_gate)
  told_given v (unscheduled f row ipv mark m e) =
      let p = step_5 f row ipv mark m.at_meter m.marked in
      rw (p.goes, scheduled_none p.bank a row (internal_of ipv a.priority) mark e)
      (pass_is b a ready p.bank p.on_its_way.classes (internal_of ipv a.priority) mark None (internal_high b a ready ipv), p.on_its_way.sound)
  told_given v (scheduled f row ipv mark there h) =
      let p = step_5 f row ipv mark there.past_meter.at_meter there.past_meter.marked in
      rw p.goes (scheduled_answers f row ipv mark there p.bank p.on_its_way h)
  told_given v (drop_8 x) =
      let p = step_5 x.filter x.row x.ipv x.mark x.at_scheduler.past_meter.at_meter x.at_scheduler.past_meter.marked in
      rw p.goes (discarded_answers x.filter x.row x.ipv x.mark x.at_scheduler p.bank p.on_its_way x.exceeds)
