-- Step 5 on the two banks, for a frame whose filter names a scheduler of the group.
use Rattle.std.specs.Prelude.{ℕ, ◌%◌, ◌+◌, ◌≤◌, ◌<◌, Bool, true, false, List, ◌≢◌, ◌≡◌, refl, leb, Some}
use Rattle.std.proofs.Math.Bool.{true}
use Rattle.std.proofs.Common.{sym, ◌∙◌, arith, leb-true, leb-false}
use Rattle.std.proofs.Math.Path.{ap, subst}
use Rattle.sizes.specs.Meaning.{group_count}
use Rattle.bucket.specs.declared.Octets.{Octets}
use Rattle.bucket.specs.Meaning.{grains}
use Rattle.class.specs.Meaning.{traffic_class_of}
use Rattle.scheduler.specs.declared.Scheduler.{Scheduler}
use Rattle.scheduler.specs.declared.Stepped.{Stepped}
use Rattle.scheduler.specs.declared.Outcome.{Outcome as SchedulerOutcome}
use Rattle.scheduler.specs.declared.Outcome.TheVariants.{Admitted, Dropped as Late, Refused as Unsound}
use Rattle.scheduler.specs.Meaning.{scheduler_step_of, eligible_of, scheduler_in_range}
use Rattle.scheduler.proofs.Cases.{step_refused, step_dropped}
use Rattle.scheduler.proofs.Larger.{Ahead, larger_burst_step}
use Rattle.record.specs.declared.ArrivalRecord.{ArrivalRecord}
use Rattle.bank.specs.Meaning.{Rows, component, word, port_row, group_row, scheduler_row, row_of_scheduler_state, scheduler_in, scheduler, group, with_scheduler_state, with_group_last, groups_from, row_with, one_more}
use Rattle.filter.specs.declared.Filter.{Filter}
use Rattle.verdict.specs.Meaning.{Verdict}
use Rattle.verdict.specs.Meaning.{Told}
use Rattle.path.specs.Meaning.{class_in, pass_of, discard_counted, offered_of, scheduled_by, scheduled_of, arrival_of, charged_of}
use Rattle.path.proofs.Cases.{scheduled_by_lem}
use Rattle.promises.specs.Bursts.Meaning.{NotLater, same, earlier, Eight}
use Rattle.promises.proofs.Bursts.Pairs.{group_named, Asked, Constants, At, Over, put, put_left, put_right, near, apart, GroupNear, SchedulerNear}
use Rattle.promises.proofs.Bursts.Frames.{pass_both, arrival_both}
use Rattle.promises.proofs.Bursts.Outside.{port_at, group_at, scheduler_at, fixed_state, Fair, length_both}

pub near_fair : Fair near
near_fair = record { overheads = λ u v e. ap (λ (w : List ℕ). word w 1) e; discards = λ u v e. ap (λ (w : List ℕ). row_with w 2 (one_more (word w 2))) e }

pub apart_fair : Fair apart
apart_fair = record { overheads = λ u v e. e.overhead; discards = λ u v e. record { overhead = e.overhead } }

-- one pass at two times
sooner_pass : (s : Rows) (priority mark : ℕ) (at at' : ℕ) → at' ≤ at → NotLater (pass_of s priority mark (Some at)) (pass_of s priority mark (Some at'))
unfolding pass_of
sooner_pass s priority mark at at' h = earlier (record { priority = priority; class = class_in (traffic_class_of priority ((component s).classes % 256)); drop_mark = mark; timed = true; eligible = at }) at' refl (omega arith)

-- unless the first drops the frame with 8
pub record Leads (k : Asked) (z : Constants) (g : ℕ) (t t' : Told) : Type 0 where
  pub verdicts : NotLater t.verdict t'.verdict
  pub banks : Over k z g t.bank t'.bank

abbrev pub Unless : Asked → Constants → ℕ → Told → Told → Type 0
Unless k z g t t' = (Eight t.verdict → ⊥) → Leads k z g t t'

module _ (z : Constants) (g : ℕ) (a : ArrivalRecord) (row : Filter) (some : row.scheduler ≢ 255) (inside : z.names (scheduler_row row.scheduler) ≡ g) (s s' : Rows) (o : Over near z g s s') where
  abbrev i : ℕ
  i = row.scheduler

  named : group_named (s (scheduler_row i)) ≡ g
  named = (o (scheduler_row i)).fixed.names (omega arith) ∙ inside

  named' : group_named (s' (scheduler_row i)) ≡ g
  named' = sym ((o (scheduler_row i)).pair.named (omega arith)) ∙ named

  small : g < group_count
  small = omega (arith, named)

  x_near : SchedulerNear (s (scheduler_row i)) (s' (scheduler_row i))
  x_near = (o (scheduler_row i)).pair.scheduler (omega arith) named

  place : group_row g ≡ groups_from + g
  place = omega (arith, small)

  group_near : GroupNear (s (group_row g)) (s' (group_row g))
  group_near = (o (group_row g)).pair.group place small

  -- both admit
  module _ (x x' : Scheduler) (at at' : ℕ) (ahead : Ahead (scheduler_in (row_of_scheduler_state (s (scheduler_row i)) x)) (scheduler_in (row_of_scheduler_state (s' (scheduler_row i)) x')))
      (level : x'.level ≤ grains (scheduler_in (s' (scheduler_row i))).burst.0) (no_later : at' ≤ at) where
    stepped : Over near z g (with_scheduler_state s i x) (with_scheduler_state s' i x')
    stepped =
        put (At near z g) s s' o (scheduler_row i) _ _
        (scheduler_at near z g (scheduler_row i) _ _ (omega arith) ((o (scheduler_row i)).pair.set (omega arith)) ((o (scheduler_row i)).pair.named (omega arith))
        (λ n. absurd (n named)) (λ _. record { ahead = ahead; burst = x_near.burst; level = omega (arith, level) }) (fixed_state z (scheduler_row i) _ x (omega arith) (o (scheduler_row i)).fixed))

    admitted_near : Over near z g (with_group_last (with_scheduler_state s i x) g at) (with_group_last (with_scheduler_state s' i x') g at')
    admitted_near =
        let w : GroupNear (with_scheduler_state s i x (group_row g)) (with_scheduler_state s' i x' (group_row g)) = (stepped (group_row g)).pair.group place small in
        put (At near z g) (with_scheduler_state s i x) (with_scheduler_state s' i x') stepped (group_row g) _ _
        (group_at near z g (group_row g) _ _ (omega arith) (omega arith) (λ n. absurd (n place)) (λ _. record { set = w.set; residence = w.residence; last = omega (arith, no_later) }))

    admitted_told : (priority mark : ℕ) → Leads near z g (scheduled_by s a i g priority mark x (Admitted at)) (scheduled_by s' a i g priority mark x' (Admitted at'))
    unfolding scheduled_by pass_of
    admitted_told priority mark = record {
      verdicts = subst (λ (v : Verdict). NotLater (pass_of (with_group_last (with_scheduler_state s i x) g at) priority mark (Some at)) v)
          (pass_both near z g _ _ admitted_near priority mark (Some at'))
          (sooner_pass (with_group_last (with_scheduler_state s i x) g at) priority mark at at' no_later);
      banks = admitted_near;
    }

  module _ (priority mark : ℕ) where
    abbrev len : Octets
    len = charged_of s a

    abbrev x₀ : Scheduler
    x₀ = scheduler s i

    abbrev x₀' : Scheduler
    x₀' = scheduler s' i

    offered_second : (r : Stepped) → scheduler_step_of x₀' (group s' g).last (group s g).residence a.time len ≡ r → r ≡ offered_of s' a i g
    offered_second r e =
        sym e
        ∙ ap (λ (n : ℕ). scheduler_step_of x₀' (group s' g).last n a.time len) group_near.residence
        ∙ ap (λ (n : Octets). scheduler_step_of x₀' (group s' g).last (group s' g).residence a.time n) (length_both near near_fair z g s s' o a)

    first_is : (r : Stepped) → offered_of s a i g ≡ r → scheduled_of s a row priority mark ≡ scheduled_by s a i g priority mark r.scheduler r.outcome
    first_is r e = scheduled_by_lem s a row priority mark some g (sym named) r (sym e) r.outcome refl

    second_is : (r : Stepped) → r ≡ offered_of s' a i g → scheduled_of s' a row priority mark ≡ scheduled_by s' a i g priority mark r.scheduler r.outcome
    second_is r e = scheduled_by_lem s' a row priority mark some g (sym named') r e r.outcome refl

    not_late : (r : Stepped) → offered_of s a i g ≡ r → r.outcome ≡ Late → Eight (scheduled_of s a row priority mark).verdict
    unfolding scheduled_by
    not_late r e l = ap (λ (t : Told). t.verdict) (first_is r e) ∙ ap (λ (d : SchedulerOutcome). (scheduled_by s a i g priority mark r.scheduler d).verdict) l

    not_unsound : (r : Stepped) → offered_of s a i g ≡ r → r.outcome ≡ Unsound → Eight (scheduled_of s a row priority mark).verdict
    unfolding scheduled_by
    not_unsound r e l = ap (λ (t : Told). t.verdict) (first_is r e) ∙ ap (λ (d : SchedulerOutcome). (scheduled_by s a i g priority mark r.scheduler d).verdict) l

    by_limit : scheduler_in_range x₀ (group s g).last (group s g).residence a.time len ≡ true → (t : Bool) → leb (eligible_of x₀ (group s g).last a.time len.0) (a.time + (group s g).residence) ≡ t
        → Unless near z g (scheduled_of s a row priority mark) (scheduled_of s' a row priority mark)
    by_limit e false l n = absurd (n (not_late _ (step_dropped x₀ (group s g).last (group s g).residence a.time len e _ refl (leb-false _ _ l)) refl))
    by_limit e true l n =
        let both = larger_burst_step x₀ x₀' (group s g).last (group s' g).last (group s g).residence a.time len x_near.ahead (omega (arith, group_near.last)) x_near.burst (omega (arith, x_near.level)) e (leb-true _ _ l) in
        rw (first_is _ both.0, second_is _ (offered_second _ both.1))
        (admitted_told _ _ _ _ both.3 (omega arith) both.2 priority mark)

    by_test : (t : Bool) → scheduler_in_range x₀ (group s g).last (group s g).residence a.time len ≡ t → Unless near z g (scheduled_of s a row priority mark) (scheduled_of s' a row priority mark)
    by_test true e = by_limit e (leb (eligible_of x₀ (group s g).last a.time len.0) (a.time + (group s g).residence)) refl
    by_test false e = λ n. absurd (n (not_unsound _ (step_refused x₀ (group s g).last (group s g).residence a.time len e) refl))

    pub scheduled_near : Unless near z g (scheduled_of s a row priority mark) (scheduled_of s' a row priority mark)
    scheduled_near = by_test (scheduler_in_range x₀ (group s g).last (group s g).residence a.time len) refl

-- the whole path
pub arrival_near : (z : Constants) (g : ℕ) (a : ArrivalRecord) (row : Filter) → row.scheduler ≢ 255 → z.names (scheduler_row row.scheduler) ≡ g → (s s' : Rows) → Over near z g s s' → (lists : List ℕ) (f : ℕ)
    → Unless near z g (arrival_of s lists a (Some (f, row))) (arrival_of s' lists a (Some (f, row)))
arrival_near z g a row some inside =
    arrival_both near z g (Unless near z g) (λ s s' v o _. record { verdicts = same refl; banks = o }) a row (λ s s' o priority mark. scheduled_near z g a row some inside s s' o priority mark)

-- ---- always: whatever each of the two does with the frame, the rest stays equal

module _ (z : Constants) (g : ℕ) (a : ArrivalRecord) (row : Filter) (some : row.scheduler ≢ 255) (inside : z.names (scheduler_row row.scheduler) ≡ g) where
  module _ (s s' : Rows) (o : Over apart z g s s') where
    abbrev r : ℕ
    r = scheduler_row row.scheduler

    named_r : group_named (s r) ≡ g
    named_r = (o r).fixed.names (omega arith) ∙ inside

    below : g < group_count
    below = omega (arith, named_r)

    at_group : group_row g ≡ groups_from + g
    at_group = omega (arith, below)

    left_scheduler : (x : Scheduler) → Over apart z g (with_scheduler_state s row.scheduler x) s'
    left_scheduler x =
        put_left (At apart z g) s s' o r _
        (scheduler_at apart z g r _ _ (omega arith) ((o r).pair.set (omega arith)) ((o r).pair.named (omega arith)) (λ n. absurd (n named_r)) (λ e. record { burst = ((o r).pair.scheduler (omega arith) named_r).burst }) (fixed_state z r _ x (omega arith) (o r).fixed))

    right_scheduler : (x : Scheduler) → Over apart z g s (with_scheduler_state s' row.scheduler x)
    right_scheduler x =
        put_right (At apart z g) s s' o r _
        (scheduler_at apart z g r _ _ (omega arith) ((o r).pair.set (omega arith)) ((o r).pair.named (omega arith)) (λ n. absurd (n named_r)) (λ e. record { burst = ((o r).pair.scheduler (omega arith) named_r).burst }) (o r).fixed)

    left_group : (at : ℕ) → Over apart z g (with_group_last s g at) s'
    left_group at = put_left (At apart z g) s s' o (group_row g) _ (group_at apart z g (group_row g) _ _ (omega arith) (omega arith) (λ n. absurd (n at_group)) (λ _. tt))

    right_group : (at : ℕ) → Over apart z g s (with_group_last s' g at)
    right_group at = put_right (At apart z g) s s' o (group_row g) _ (group_at apart z g (group_row g) _ _ (omega arith) (omega arith) (λ n. absurd (n at_group)) (λ _. tt))

    left_port : Over apart z g (discard_counted s a.port) s'
    unfolding discard_counted
    left_port =
        put_left (At apart z g) s s' o (port_row a.port) _
        (port_at apart z g (port_row a.port) _ _ (omega arith) (omega arith) (record { overhead = ((o (port_row a.port)).pair.ports (omega arith) (omega arith)).overhead }))

    right_port : Over apart z g s (discard_counted s' a.port)
    unfolding discard_counted
    right_port =
        put_right (At apart z g) s s' o (port_row a.port) _
        (port_at apart z g (port_row a.port) _ _ (omega arith) (omega arith) (record { overhead = ((o (port_row a.port)).pair.ports (omega arith) (omega arith)).overhead }))

  left_by : (s s' : Rows) → Over apart z g s s' → (priority mark : ℕ) (x : Scheduler) (d : SchedulerOutcome) → Over apart z g (scheduled_by s a row.scheduler g priority mark x d).bank s'
  unfolding scheduled_by
  left_by s s' o priority mark x (Admitted at) = left_group _ s' (left_scheduler s s' o x) at
  left_by s s' o priority mark x Late = left_port s s' o
  left_by s s' o priority mark x Unsound = left_port s s' o

  right_by : (s s' : Rows) → Over apart z g s s' → (priority mark : ℕ) (x : Scheduler) (d : SchedulerOutcome) → Over apart z g s (scheduled_by s' a row.scheduler g priority mark x d).bank
  unfolding scheduled_by
  right_by s s' o priority mark x (Admitted at) = right_group s _ (right_scheduler s s' o x) at
  right_by s s' o priority mark x Late = right_port s s' o
  right_by s s' o priority mark x Unsound = right_port s s' o

  scheduled_apart : (s s' : Rows) → Over apart z g s s' → (priority mark : ℕ) → Over apart z g (scheduled_of s a row priority mark).bank (scheduled_of s' a row priority mark).bank
  scheduled_apart s s' o priority mark =
      rw (
        scheduled_by_lem s a row priority mark some g (sym ((o r').fixed.names (omega arith) ∙ inside)) (offered_of s a row.scheduler g) refl _ refl,
        scheduled_by_lem s' a row priority mark some g (sym (sym ((o r').pair.named (omega arith)) ∙ (o r').fixed.names (omega arith) ∙ inside)) (offered_of s' a row.scheduler g) refl _ refl,
      )
      (left_by s _ (right_by s s' o priority mark _ _) priority mark _ _)
    where
      r' : ℕ
      r' = scheduler_row row.scheduler

  pub arrival_apart : (s s' : Rows) → Over apart z g s s' → (lists : List ℕ) (f : ℕ) → Over apart z g (arrival_of s lists a (Some (f, row))).bank (arrival_of s' lists a (Some (f, row))).bank
  arrival_apart = arrival_both apart z g (λ t t'. Over apart z g t.bank t'.bank) (λ s s' v o. o) a row scheduled_apart
