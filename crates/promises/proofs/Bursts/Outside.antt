-- Step 5 on two banks that are equal outside a group, for a frame whose filter names no scheduler of that group: one verdict, and the banks stay so.
use Rattle.std.specs.Prelude.{ℕ, ◌+◌, ◌%◌, ◌≤◌, ◌<◌, ◌^◌, false, List, ◌≢◌, ◌≡◌, refl, None, Some, Bool}
use Rattle.std.proofs.Math.Bool.{true}
use Rattle.std.proofs.Common.{sym, ap, ◌∙◌, arith}
use Rattle.std.proofs.Math.Decide.{ℕ_discrete}
use Rattle.frame.specs.Meaning.{frame_of}
use Rattle.sizes.specs.Meaning.{group_count}
use Rattle.bucket.specs.declared.Octets.{Octets}
use Rattle.scheduler.specs.declared.Scheduler.{Scheduler}
use Rattle.scheduler.specs.declared.Outcome.{Outcome as SchedulerOutcome}
use Rattle.scheduler.specs.declared.Outcome.TheVariants.{Admitted, Dropped as Late, Refused as Unsound}
use Rattle.scheduler.specs.Meaning.{scheduler_step_of}
use Rattle.record.specs.declared.ArrivalRecord.{ArrivalRecord}
use Rattle.bank.specs.Meaning.{Rows, word, port_row, group_row, scheduler_row, is_set, row_of_scheduler_state, scheduler_in, group_in, with_scheduler_state, with_group_last, ports_from, gates_from, groups_from, schedulers_from, row_with, one_more}
use Rattle.filter.specs.declared.Filter.{Filter}
use Rattle.verdict.specs.Meaning.{Verdict}
use Rattle.verdict.specs.Meaning.{Told, told}
use Rattle.path.specs.Meaning.{discard_counted, offered_of, scheduled_by, scheduled_of, arrival_of, charged_of}
use Rattle.path.proofs.Cases.{scheduled_none, scheduled_by_lem}
use Rattle.promises.proofs.Bursts.Pairs.{group_named, Asked, Constants, Fixed, Pair, At, Over, put, InSchedulers}
use Rattle.promises.proofs.Bursts.Frames.{pass_both, unmatched_both, arrival_both}

-- ---- a pair of rows by what it is

module _ (k : Asked) (z : Constants) (g q : ℕ) (u v : List ℕ) where
  pub port_at : ports_from ≤ q → q < gates_from → k.Port u v → At k z g q u v
  port_at l m h = record {
    pair = record {
      outer = λ n. absurd (omega (arith, n.0 l));
      ports = λ _ _. h;
      groups = λ n _ _. absurd (omega (arith, n));
      group = λ n _. absurd (omega (arith, n));
      set = λ n. absurd (omega (arith, n));
      named = λ n. absurd (omega (arith, n));
      schedulers = λ n _. absurd (omega (arith, n));
      scheduler = λ n _. absurd (omega (arith, n));
    };
    fixed = record { classes = λ n. absurd (omega (arith, n)); overhead = λ n. absurd (omega (arith, n)); names = λ n. absurd (omega (arith, n)); bursts = λ n. absurd (omega (arith, n)) };
  }

  pub group_at : groups_from ≤ q → q < schedulers_from → (q ≢ groups_from + g → u ≡ v) → (q ≡ groups_from + g → k.Group u v) → At k z g q u v
  group_at l m e h = record {
    pair = record {
      outer = λ n. absurd (omega (arith, n.1 l));
      ports = λ _ n. absurd (omega (arith, n));
      groups = λ _ _ n. e n;
      group = λ n _. h n;
      set = λ n. absurd (omega (arith, n));
      named = λ n. absurd (omega (arith, n));
      schedulers = λ n _. absurd (omega (arith, n));
      scheduler = λ n _. absurd (omega (arith, n));
    };
    fixed = record { classes = λ n. absurd (omega (arith, n)); overhead = λ n. absurd (omega (arith, n)); names = λ n. absurd (omega (arith, n)); bursts = λ n. absurd (omega (arith, n)) };
  }

  pub scheduler_pair : InSchedulers q → is_set (word u 0) ≡ is_set (word v 0) → group_named u ≡ group_named v → (group_named u ≢ g → u ≡ v) → (group_named u ≡ g → k.Scheduler u v) → Pair k g q u v
  scheduler_pair l set n e h = record {
    outer = λ m. absurd (omega (arith, m.1 (omega arith)));
    ports = λ _ m. absurd (omega (arith, m));
    groups = λ _ m _. absurd (omega (arith, m));
    group = λ m m'. absurd (omega (arith, m, m'));
    set = λ _. set;
    named = λ _. n;
    schedulers = λ _ m. e m;
    scheduler = λ _ m. h m;
  }

  pub scheduler_at : InSchedulers q → is_set (word u 0) ≡ is_set (word v 0) → group_named u ≡ group_named v → (group_named u ≢ g → u ≡ v) → (group_named u ≡ g → k.Scheduler u v) → Fixed z q u → At k z g q u v
  scheduler_at l set n e h fixed = record { pair = scheduler_pair l set n e h; fixed = fixed }

-- a step leaves what stays of a scheduler's row
pub fixed_state : (z : Constants) (q : ℕ) (u : List ℕ) (x : Scheduler) → InSchedulers q → Fixed z q u → Fixed z q (row_of_scheduler_state u x)
fixed_state z q u x l f = record { classes = λ n. absurd (omega (arith, n)); overhead = λ n. absurd (omega (arith, n)); names = f.names; bursts = f.bursts }

-- the two tell one verdict, and their banks are still equal outside the group
pub record Alike (k : Asked) (z : Constants) (g : ℕ) (t t' : Told) : Type 0 where
  pub verdicts : t.verdict ≡ t'.verdict
  pub banks : Over k z g t.bank t'.bank

pub alike_stop : (k : Asked) (z : Constants) (g : ℕ) (s s' : Rows) (v : Verdict) → Over k z g s s' → Alike k z g (told s v) (told s' v)
alike_stop k z g s s' v o = record { verdicts = refl; banks = o }

-- what is asked of ports leaves their overheads equal, and a frame discarded by both keeps it
pub record Fair (k : Asked) : Type 0 where
  pub overheads : (u v : List ℕ) → k.Port u v → word u 1 ≡ word v 1
  pub discards : (u v : List ℕ) → k.Port u v → k.Port (row_with u 2 (one_more (word u 2))) (row_with v 2 (one_more (word v 2)))

module _ (k : Asked) (fair : Fair k) (z : Constants) (g : ℕ) (s s' : Rows) (o : Over k z g s s') where
  pub discarded_both : (p : ℕ) → Over k z g (discard_counted s p) (discard_counted s' p)
  unfolding discard_counted
  discarded_both p =
      put (At k z g) s s' o (port_row p) _ _
      (port_at k z g (port_row p) _ _ (omega arith) (omega arith) (fair.discards (s (port_row p)) (s' (port_row p)) ((o (port_row p)).pair.ports (omega arith) (omega arith))))

  pub length_both : (a : ArrivalRecord) → charged_of s a ≡ charged_of s' a
  length_both a = ap (λ (n : ℕ). frame_of a.msdu (n % 2 ^ 8)) (fair.overheads _ _ ((o (port_row a.port)).pair.ports (omega arith) (omega arith)))

  -- scheduler `i` names group `j`, which isn't `g`
  module _ (a : ArrivalRecord) (i j : ℕ) (is : j ≡ z.names (scheduler_row i)) (out : j ≢ g) where
    names_in : group_named (s (scheduler_row i)) ≡ j
    names_in = (o (scheduler_row i)).fixed.names (omega arith) ∙ sym is

    small : j < group_count
    small = omega (arith, names_in)

    scheduler_row_both : s (scheduler_row i) ≡ s' (scheduler_row i)
    scheduler_row_both = (o (scheduler_row i)).pair.schedulers (omega arith) (λ e. out (sym names_in ∙ e))

    group_row_both : s (group_row j) ≡ s' (group_row j)
    group_row_both = (o (group_row j)).pair.groups (omega arith) (omega arith) (λ e. out (omega (arith, small, e)))

    offered_both : offered_of s a i j ≡ offered_of s' a i j
    offered_both =
        ap (λ (u : List ℕ). scheduler_step_of (scheduler_in u) (group_in (s (group_row j))).last (group_in (s (group_row j))).residence a.time (charged_of s a)) scheduler_row_both
        ∙ ap (λ (u : List ℕ). scheduler_step_of (scheduler_in (s' (scheduler_row i))) (group_in u).last (group_in u).residence a.time (charged_of s a)) group_row_both
        ∙ ap (λ (n : Octets). scheduler_step_of (scheduler_in (s' (scheduler_row i))) (group_in (s' (group_row j))).last (group_in (s' (group_row j))).residence a.time n) (length_both a)

    admitted_both : (x : Scheduler) (at : ℕ) → Over k z g (with_group_last (with_scheduler_state s i x) j at) (with_group_last (with_scheduler_state s' i x) j at)
    admitted_both x at =
        let stepped : Over k z g (with_scheduler_state s i x) (with_scheduler_state s' i x)
        = put (At k z g) s s' o (scheduler_row i) _ _
        (scheduler_at k z g (scheduler_row i) _ _ (omega arith) ((o (scheduler_row i)).pair.set (omega arith)) ((o (scheduler_row i)).pair.named (omega arith))
        (λ _. ap (λ (u : List ℕ). row_of_scheduler_state u x) scheduler_row_both) (λ e. absurd (out (sym names_in ∙ e))) (fixed_state z (scheduler_row i) _ x (omega arith) (o (scheduler_row i)).fixed)) in
        put (At k z g) (with_scheduler_state s i x) (with_scheduler_state s' i x) stepped (group_row j) _ _
        (group_at k z g (group_row j) _ _ (omega arith) (omega arith)
        (λ n. ap (λ (u : List ℕ). row_with u 2 at) ((stepped (group_row j)).pair.groups (omega arith) (omega arith) n))
        (λ e. absurd (out (omega (arith, small, e)))))

    by_outcome : (priority mark : ℕ) (x : Scheduler) (d : SchedulerOutcome) → Alike k z g (scheduled_by s a i j priority mark x d) (scheduled_by s' a i j priority mark x d)
    unfolding scheduled_by
    by_outcome priority mark x (Admitted at) = record { verdicts = pass_both k z g _ _ (admitted_both x at) priority mark (Some at); banks = admitted_both x at }
    by_outcome priority mark x Late = record { verdicts = refl; banks = discarded_both a.port }
    by_outcome priority mark x Unsound = record { verdicts = refl; banks = discarded_both a.port }

module _ (k : Asked) (fair : Fair k) (z : Constants) (g : ℕ) (a : ArrivalRecord) (row : Filter) (out : row.scheduler ≢ 255 → z.names (scheduler_row row.scheduler) ≢ g) where
  scheduled_outside : (s s' : Rows) → Over k z g s s' → (priority mark : ℕ) → Alike k z g (scheduled_of s a row priority mark) (scheduled_of s' a row priority mark)
  scheduled_outside s s' o priority mark = by_name (ℕ_discrete row.scheduler 255)
    where
      by_name : Dec (row.scheduler ≡ 255) → Alike k z g (scheduled_of s a row priority mark) (scheduled_of s' a row priority mark)
      by_name (yes e) =
          rw (scheduled_none s a row priority mark e, scheduled_none s' a row priority mark e)
          (record { verdicts = pass_both k z g s s' o priority mark None; banks = o })
      by_name (no n) =
          let i = row.scheduler in
          let j = z.names (scheduler_row i) in
          rw (
            scheduled_by_lem s a row priority mark n j (sym ((o (scheduler_row i)).fixed.names (omega arith))) (offered_of s a i j) refl _ refl,
            scheduled_by_lem s' a row priority mark n j (sym (sym ((o (scheduler_row i)).pair.named (omega arith)) ∙ (o (scheduler_row i)).fixed.names (omega arith))) (offered_of s a i j) (offered_both k fair z g s s' o a i j refl (out n)) _ refl,
          )
          (by_outcome k fair z g s s' o a i j refl (out n) priority mark (offered_of s a i j).scheduler (offered_of s a i j).outcome)

  -- the whole path
  pub arrival_outside : (s s' : Rows) → Over k z g s s' → (lists : List ℕ) (f : ℕ) → Alike k z g (arrival_of s lists a (Some (f, row))) (arrival_of s' lists a (Some (f, row)))
  arrival_outside = arrival_both k z g (Alike k z g) (alike_stop k z g) a row scheduled_outside

-- a frame of no filter
pub arrival_unmatched : (k : Asked) (z : Constants) (g : ℕ) (a : ArrivalRecord) (s s' : Rows) → Over k z g s s' → (lists : List ℕ) → Alike k z g (arrival_of s lists a None) (arrival_of s' lists a None)
arrival_unmatched k z g a = unmatched_both k z g (Alike k z g) (alike_stop k z g) a
