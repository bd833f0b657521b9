-- Steps 1 to 4 of a frame's path on two banks that are equal outside a group: what holds of step 5 on both holds of the whole path on both.
use Rattle.std.specs.Prelude.{ℕ, ◌%◌, ◌<◌, ◌^◌, Bool, true, false, not, ◌&&◌, ◌||◌, cond, List, ◌≡◌, refl, None, Some}
use Rattle.std.specs.Prelude.{Option, is_some, unwrap_or}
use Rattle.std.proofs.Math.Path.{ap, subst}
use Rattle.std.proofs.Common.{◌∙◌, arith}
use Rattle.std.proofs.Math.Dec.{ltb, eqb}
use mir.Val.{bool_byte}
use Rattle.bank.specs.declared.Counter.TheVariants.{Matching, PassingSdu, NotPassingSdu, Passing, NotPassing, Red as RedFrames}
use Rattle.bank.specs.declared.Counter.{Counter}
use Rattle.class.specs.Meaning.{traffic_class_of}
use Rattle.gate.specs.declared.Gate.{Gate}
use Rattle.gate.specs.declared.Stepped.{Stepped as GateStepped}
use Rattle.gate.specs.declared.Outcome.{Outcome as GateOutcome}
use Rattle.gate.specs.declared.Outcome.TheVariants.{Passed as Open, Blocked, Closed, TooManyOctets}
use Rattle.gate.specs.Meaning.{entries_of, gate_step_of}
use Rattle.meter.specs.declared.Meter.{Meter}
use Rattle.meter.specs.declared.Metered.{Metered}
use Rattle.meter.specs.declared.Outcome.{Outcome as MeterOutcome}
use Rattle.meter.specs.declared.Outcome.TheVariants.{Green, Yellow, YellowDropped, Red, OutOfRange, TooEarly}
use Rattle.meter.specs.Meaning.{colour_of}
use Rattle.record.specs.declared.ArrivalRecord.{ArrivalRecord}
use Rattle.record.specs.declared.Refusal.TheVariants.{TimeGoesBack}
use Rattle.bank.specs.declared.Counters.{Counters}
use Rattle.bank.specs.declared.Component.{Component}
use Rattle.bank.specs.Meaning.{Rows, with_row, is_set, component_row, counters_row, gate_row, gate_state_row, meter_row, meter_state_row, counters_in, component_in, gate_in, meter_in, row_of_gate_state, row_of_meter_state, component, counters, gate, with_gate_state, meter, with_meter_state, word, row_with, counter_place, one_more, bump, with_oversize, with_clock}
use Rattle.filter.specs.declared.Filter.{Filter}
use Rattle.filter.specs.Meaning.{Found}
use Rattle.verdict.specs.declared.Drop.TheVariants as drop
use Rattle.verdict.specs.Meaning.{Verdict}
use Rattle.verdict.specs.Meaning.{Refused, Passed, Dropped}
use Rattle.verdict.specs.Meaning.{Told, told}
use Rattle.path.specs.Meaning.{class_in, pass_of, sdu_passed, sdu_failed, gate_passed, gate_failed, red_counted, scheduled_of, coloured_of, metered_by, metered_of, internal_of, list_of, reached_of, gated_by, gated_of, sdu_filtered_of, matched_of, arrival_of}
use Rattle.promises.proofs.Bursts.Pairs.{Asked, Constants, At, Over, put, outer_same, component_pair, Outer}

pub cond_both : (Q : Told → Told → Type 0) (b : Bool) (t u t' u' : Told) → Q t t' → Q u u' → Q (cond b t u) (cond b t' u')
cond_both Q true t u t' u' h k = h
cond_both Q false t u t' u' h k = k

module _ (k : Asked) (z : Constants) (g : ℕ) (s s' : Rows) (o : Over k z g s s') where
  pub store_outer : (q : ℕ) → component_row < q → Outer q → (vs : List ℕ) → Over k z g (with_row s q vs) (with_row s' q vs)
  store_outer q low out vs = put (At k z g) s s' o q vs vs (outer_same k z g q vs vs low out refl)

  -- a row outside
  pub outer_both : (q : ℕ) → component_row < q → Outer q → s q ≡ s' q
  outer_both q low out = (o q).pair.outer out

  -- a store of what is made from the row itself
  pub remade : (q : ℕ) → component_row < q → Outer q → (make : List ℕ → List ℕ) → Over k z g (with_row s q (make (s q))) (with_row s' q (make (s' q)))
  remade q low high make = put (At k z g) s s' o q (make (s q)) (make (s' q)) (outer_same k z g q (make (s q)) (make (s' q)) low high (ap make (outer_both q low high)))

  pub component_row_both : s component_row ≡ s' component_row
  component_row_both = (o component_row).pair.outer (omega arith)

  pub component_both : component s ≡ component s'
  component_both = ap component_in component_row_both

  pub counters_both : (f : ℕ) → counters s f ≡ counters s' f
  counters_both f = ap counters_in (outer_both (counters_row f) (omega arith) (omega arith))

  pub gate_row_both : (i : ℕ) → s (gate_row i) ≡ s' (gate_row i)
  gate_row_both i = outer_both (gate_row i) (omega arith) (omega arith)

  pub meter_row_both : (i : ℕ) → s (meter_row i) ≡ s' (meter_row i)
  meter_row_both i = outer_both (meter_row i) (omega arith) (omega arith)

  pub gate_both : (i : ℕ) → gate s i ≡ gate s' i
  gate_both i = ap (λ (u : List ℕ). gate_in u (s (gate_state_row i))) (gate_row_both i) ∙ ap (gate_in (s' (gate_row i))) (outer_both (gate_state_row i) (omega arith) (omega arith))

  pub meter_both : (i : ℕ) → meter s i ≡ meter s' i
  meter_both i = ap (λ (u : List ℕ). meter_in u (s (meter_state_row i))) (meter_row_both i) ∙ ap (meter_in (s' (meter_row i))) (outer_both (meter_state_row i) (omega arith) (omega arith))

  pub pass_both : (priority mark : ℕ) (eligible : Option ℕ) → pass_of s priority mark eligible ≡ pass_of s' priority mark eligible
  unfolding pass_of
  pass_both priority mark eligible =
      ap (λ (x : Component). Passed (record { priority = priority; class = class_in (traffic_class_of priority (x.classes % 2 ^ 8)); drop_mark = mark; timed = is_some eligible; eligible = unwrap_or eligible 0 })) component_both

  -- ---- counters

  pub bumped : (f : ℕ) (c : Counter) → Over k z g (bump s f c) (bump s' f c)
  bumped f c = remade (counters_row f) (omega arith) (omega arith) (λ u. row_with u (counter_place c) (one_more (word u (counter_place c))))

  pub oversized : (f : ℕ) (flag : Bool) → Over k z g (with_oversize s f flag) (with_oversize s' f flag)
  oversized f flag = remade (counters_row f) (omega arith) (omega arith) (λ u. row_with u 6 (bool_byte flag))

module _ (k : Asked) (z : Constants) (g : ℕ) (s s' : Rows) (o : Over k z g s s') where
  pub sdu_passed_both : (f : ℕ) → Over k z g (sdu_passed s f) (sdu_passed s' f)
  unfolding sdu_passed
  sdu_passed_both f = bumped k z g _ _ (bumped k z g s s' o f Matching) f PassingSdu

  pub sdu_failed_both : (f : ℕ) (flag : Bool) → Over k z g (sdu_failed s f flag) (sdu_failed s' f flag)
  unfolding sdu_failed
  sdu_failed_both f flag = oversized k z g _ _ (bumped k z g _ _ (bumped k z g s s' o f Matching) f NotPassingSdu) f flag

  pub gate_passed_both : (f : ℕ) → Over k z g (gate_passed s f) (gate_passed s' f)
  unfolding gate_passed
  gate_passed_both f = bumped k z g s s' o f Passing

  pub gate_failed_both : (f : ℕ) → Over k z g (gate_failed s f) (gate_failed s' f)
  unfolding gate_failed
  gate_failed_both f = bumped k z g s s' o f NotPassing

  pub red_counted_both : (f : ℕ) → Over k z g (red_counted s f) (red_counted s' f)
  unfolding red_counted
  red_counted_both f = bumped k z g s s' o f RedFrames

-- `Q` is what is to hold of the two: it holds wherever the two stop with one verdict
module _ (k : Asked) (z : Constants) (g : ℕ) (Q : Told → Told → Type 0) (stop : (s s' : Rows) (v : Verdict) → Over k z g s s' → Q (told s v) (told s' v)) (a : ArrivalRecord) where
  ticked_both : (s s' : Rows) → Over k z g s s' → (at : ℕ) → Over k z g (with_clock s at) (with_clock s' at)
  ticked_both s s' o at =
      put (At k z g) s s' o component_row _ _
      (record {
        pair = component_pair k g _ _ (ap (λ (u : List ℕ). row_with u 1 at) (component_row_both k z g s s' o));
        fixed = record { classes = (o component_row).fixed.classes; overhead = (o component_row).fixed.overhead; names = λ l. absurd (omega (arith, l)); bursts = λ l. absurd (omega (arith, l)) };
      })

  -- of what was found, what follows step 1
  arrival_by : (lists : List ℕ) (found : Found) → ((s s' : Rows) → Over k z g s s' → Q (matched_of s lists a found) (matched_of s' lists a found))
      → (s s' : Rows) → Over k z g s s' → Q (arrival_of s lists a found) (arrival_of s' lists a found)
  unfolding arrival_of
  arrival_by lists found then s s' o =
      subst (λ (x : Component). Q (arrival_of s lists a found) (cond (ltb a.time x.clock) (told s' (Refused TimeGoesBack)) (matched_of (with_clock s' a.time) lists a found)))
      (component_both k z g s s' o)
      (cond_both Q (ltb a.time (component s).clock) _ _ _ _ (stop s s' _ o) (then _ _ (ticked_both s s' o a.time)))

  pub unmatched_both : (s s' : Rows) → Over k z g s s' → (lists : List ℕ) → Q (arrival_of s lists a None) (arrival_of s' lists a None)
  unmatched_both s s' o lists = arrival_by lists None passes s s' o
    where
      passes : (t t' : Rows) → Over k z g t t' → Q (matched_of t lists a None) (matched_of t' lists a None)
      passes t t' p =
          subst (λ (v : Verdict). Q (told t (pass_of t a.priority a.drop_eligible None)) (told t' v)) (pass_both k z g t t' p a.priority a.drop_eligible None) (stop t t' _ p)

-- and of step 5
module _ (k : Asked) (z : Constants) (g : ℕ) (Q : Told → Told → Type 0) (stop : (s s' : Rows) (v : Verdict) → Over k z g s s' → Q (told s v) (told s' v)) (a : ArrivalRecord) (row : Filter)
    (step : (s s' : Rows) → Over k z g s s' → (priority mark : ℕ) → Q (scheduled_of s a row priority mark) (scheduled_of s' a row priority mark)) where
  metered_outcome : (s s' : Rows) → Over k z g s s' → (f priority : ℕ) (m : MeterOutcome) → Q (metered_by s a f row priority m) (metered_by s' a f row priority m)
  unfolding metered_by
  metered_outcome s s' o f priority Green = step s s' o priority a.drop_eligible
  metered_outcome s s' o f priority Yellow = step s s' o priority 1
  metered_outcome s s' o f priority YellowDropped = stop _ _ _ (red_counted_both k z g s s' o f)
  metered_outcome s s' o f priority Red = stop _ _ _ (red_counted_both k z g s s' o f)
  metered_outcome s s' o f priority OutOfRange = stop _ _ _ (red_counted_both k z g s s' o f)
  metered_outcome s s' o f priority TooEarly = stop _ _ _ (red_counted_both k z g s s' o f)

  metered_both : (s s' : Rows) → Over k z g s s' → (f priority : ℕ) → Q (metered_of s a f row priority) (metered_of s' a f row priority)
  unfolding metered_of
  metered_both s s' o f priority =
      cond_both Q (eqb row.meter 255) _ _ _ _ (step s s' o priority a.drop_eligible)
      (subst (λ (m : Metered). Q (metered_by (with_meter_state s row.meter (coloured_of s a row.meter).meter) a f row priority (coloured_of s a row.meter).outcome) (metered_by (with_meter_state s' row.meter m.meter) a f row priority m.outcome))
      (ap (λ (m : Meter). colour_of m a.time (record { 0 = a.msdu }) (is_set a.drop_eligible)) (meter_both k z g s s' o row.meter))
      (metered_outcome _ _ (store_outer k z g s s' o (meter_state_row row.meter) (omega arith) (omega arith) (row_of_meter_state (coloured_of s a row.meter).meter)) f priority (coloured_of s a row.meter).outcome))

  gated_outcome : (s s' : Rows) → Over k z g s s' → (f : ℕ) (m : GateOutcome) → Q (gated_by s a f row m) (gated_by s' a f row m)
  unfolding gated_by
  gated_outcome s s' o f (Open ipv) = metered_both _ _ (gate_passed_both k z g s s' o f) f (internal_of ipv a.priority)
  gated_outcome s s' o f Blocked = stop _ _ _ (gate_failed_both k z g s s' o f)
  gated_outcome s s' o f Closed = stop _ _ _ (gate_failed_both k z g s s' o f)
  gated_outcome s s' o f TooManyOctets = stop _ _ _ (gate_failed_both k z g s s' o f)

  reached_both : (s s' : Rows) → Over k z g s s' → (lists : List ℕ) → reached_of s lists a row.gate ≡ reached_of s' lists a row.gate
  reached_both s s' o lists =
      ap (λ (x : Gate). gate_step_of x (entries_of (list_of s lists row.gate)) a.time a.msdu) (gate_both k z g s s' o row.gate)
      ∙ rw (gate_row_both k z g s s' o row.gate)

  gated_both : (s s' : Rows) → Over k z g s s' → (lists : List ℕ) (f : ℕ) → Q (gated_of s lists a f row) (gated_of s' lists a f row)
  unfolding gated_of
  gated_both s s' o lists f =
      subst (λ (m : GateStepped). Q (gated_by (with_gate_state s row.gate (reached_of s lists a row.gate).gate) a f row (reached_of s lists a row.gate).outcome) (gated_by (with_gate_state s' row.gate m.gate) a f row m.outcome))
      (reached_both s s' o lists)
      (gated_outcome _ _ (store_outer k z g s s' o (gate_state_row row.gate) (omega arith) (omega arith) (row_of_gate_state (reached_of s lists a row.gate).gate)) f (reached_of s lists a row.gate).outcome)

  sdu_filtered_as : (s s' : Rows) → Over k z g s s' → (lists : List ℕ) (f : ℕ) (c : Counters)
      → Q (cond (eqb row.oversize_block 1 && c.oversize) (told (sdu_failed s f c.oversize) (Dropped drop.OversizeBlocked)) (cond (not (eqb row.max_sdu 0) && ltb row.max_sdu a.msdu) (told (sdu_failed s f (c.oversize || eqb row.oversize_block 1)) (Dropped drop.Oversize)) (gated_of (sdu_passed s f) lists a f row)))
      (cond (eqb row.oversize_block 1 && c.oversize) (told (sdu_failed s' f c.oversize) (Dropped drop.OversizeBlocked)) (cond (not (eqb row.max_sdu 0) && ltb row.max_sdu a.msdu) (told (sdu_failed s' f (c.oversize || eqb row.oversize_block 1)) (Dropped drop.Oversize)) (gated_of (sdu_passed s' f) lists a f row)))
  sdu_filtered_as s s' o lists f c =
      cond_both Q (eqb row.oversize_block 1 && c.oversize) _ _ _ _ (stop _ _ _ (sdu_failed_both k z g s s' o f c.oversize))
      (cond_both Q (not (eqb row.max_sdu 0) && ltb row.max_sdu a.msdu) _ _ _ _ (stop _ _ _ (sdu_failed_both k z g s s' o f (c.oversize || eqb row.oversize_block 1))) (gated_both _ _ (sdu_passed_both k z g s s' o f) lists f))

  sdu_filtered_both : (s s' : Rows) → Over k z g s s' → (lists : List ℕ) (f : ℕ) → Q (sdu_filtered_of s lists a f row) (sdu_filtered_of s' lists a f row)
  unfolding sdu_filtered_of
  sdu_filtered_both s s' o lists f =
      subst (λ (c : Counters). Q (sdu_filtered_of s lists a f row) (cond (eqb row.oversize_block 1 && c.oversize) (told (sdu_failed s' f c.oversize) (Dropped drop.OversizeBlocked)) (cond (not (eqb row.max_sdu 0) && ltb row.max_sdu a.msdu) (told (sdu_failed s' f (c.oversize || eqb row.oversize_block 1)) (Dropped drop.Oversize)) (gated_of (sdu_passed s' f) lists a f row))))
      (counters_both k z g s s' o f) (sdu_filtered_as s s' o lists f (counters s f))

  pub arrival_both : (s s' : Rows) → Over k z g s s' → (lists : List ℕ) (f : ℕ) → Q (arrival_of s lists a (Some (f, row))) (arrival_of s' lists a (Some (f, row)))
  arrival_both s s' o lists f = arrival_by k z g Q stop a lists (Some (f, row)) (λ t t' p. sdu_filtered_both t t' p lists f) s s' o
