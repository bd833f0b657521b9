-- The promise on bursts holds of every two histories that it speaks of (`larger_burst`, at the end).
use Rattle.std.specs.Prelude.{ℕ, Bool, true, List, [], ◌∷◌, ◌++◌, ◌⊎◌, ◌≡◌, eqb, length}
use Rattle.std.proofs.Math.Bool.{false}
use Rattle.std.proofs.Common.{true≢false, inl, subst, ◌∙◌, arith, eqb-true}
use Rattle.std.proofs.Math.Logic.{inr}
use Rattle.std.proofs.Math.Path.{refl, sym, ap}
use Rattle.sizes.specs.Meaning.{filter_count}
use Rattle.record.specs.declared.Record.TheVariants as kind
use Rattle.record.specs.declared.Refusal.{Refusal}
use Rattle.record.specs.declared.Refusal.TheVariants.{OutOfTurn, TableLength}
use Rattle.record.specs.Meaning.{read_of}
use Rattle.record.proofs.Laws.{read_late}
use Rattle.record.proofs.Ranges.{read_ranges}
use Rattle.bank.specs.Meaning.{group_row, scheduler_row, component_row, port_row, counters_row, gate_row, gate_state_row, meter_row, meter_state_row}
use Rattle.verdict.specs.Meaning.{Verdict}
use Rattle.setup.specs.Meaning.{set_scheduler_of as setUpOf}
use Rattle.stage.specs.Meaning.{Bridge, Took, answered, refused_of, taken_of, started_of, take_of}
use Rattle.promises.specs.Bursts.Meaning.{NotLater, same, earlier, Eight, StartTogether, Spared, NoLater, SameOutside, SameBesides, Larger, Promise}
use Rattle.promises.proofs.Bursts.Pairs.{Near, near_apart}
use Rattle.promises.proofs.Bursts.Setups.{scheduler_differs}
use Rattle.promises.proofs.Bursts.Early.{early_checked}
use Rattle.promises.proofs.Bursts.Later.{Strong}
use Rattle.promises.proofs.Bursts.Loose.{Weak}
use Rattle.promises.proofs.Bursts.Calls.{take_table, take_refused, take_taken, call_ahead, framed_back, call_loose, framed_on}
use Rattle.promises.specs.Meaning.{Call, run_of, fresh}

-- ---- runs of the same calls

eight_back : (v v' : Verdict) → NotLater v v' → Eight v' → Eight v
eight_back v v' (same e) h = e ∙ h
eight_back v v' (earlier p at t l) h = absurd (let w : ◌≡◌ {A = ℕ} 0 1 = cc in omega arith)

pub near_run : (g : ℕ) (b b' : Bridge) → Strong g b b' → (cs : List Call) → StartTogether b b' cs → Spared g b cs → NoLater b b' cs × Spared g b' cs × Strong g (run_of b cs) (run_of b' cs)
unfolding run_of
near_run g b b' strong [] together spared = (tt, tt, strong)
near_run g b b' strong (c ∷ cs) together spared =
    let h = call_ahead g b b' strong c together.0 spared.0 in
    let k = near_run g (take_of b c).after (take_of b' c).after h.after cs together.1 spared.1 in
    (((h.used, h.verdicts), k.0), ((λ f e. spared.0 (framed_back g b b' strong c f) (eight_back (take_of b c).answer.verdict (take_of b' c).answer.verdict h.verdicts e)), k.1), k.2)

pub loose_run : (g : ℕ) (b b' : Bridge) → Weak g b b' → (cs : List Call) → StartTogether b b' cs → SameOutside g b b' cs × Weak g (run_of b cs) (run_of b' cs)
unfolding run_of
loose_run g b b' weak [] together = (tt, weak)
loose_run g b b' weak (c ∷ cs) together =
    let h = call_loose g b b' weak c together.0 in
    let k = loose_run g (take_of b c).after (take_of b' c).after h.after cs together.1 in
    (((h.answers, framed_on g b b' weak c), k.0), k.1)

-- ---- the fresh bridge

fresh_near : (g : ℕ) → Near g fresh.bank fresh.bank
unfolding fresh
fresh_near g q = record {
  outer = λ _. refl;
  ports = λ _ _. refl;
  groups = λ _ _ _. refl;
  group = λ _ _. record { set = refl; residence = refl; last = omega arith };
  set = λ _. refl;
  named = λ _. refl;
  schedulers = λ _ _. refl;
  scheduler = λ _ _. record { ahead = record { rates = refl; bursts = omega arith; lasts = omega arith; levels = λ _ _. omega arith }; burst = omega arith; level = omega arith };
}

fresh_unstarted : started_of fresh.bank ≡ false
unfolding fresh
fresh_unstarted = refl

fresh_weak : (g : ℕ) → Weak g fresh fresh
fresh_weak g = record {
  tables = refl;
  lists = refl;
  near = λ _. fresh_near g;
  banks = near_apart g fresh.bank fresh.bank (fresh_near g);
  checked = λ e. absurd (true≢false (sym e ∙ fresh_unstarted));
}

together_itself : (b : Bridge) (cs : List Call) → StartTogether b b cs
together_itself b [] = tt
together_itself b (c ∷ cs) = (refl, together_itself (take_of b c).after cs)

no_later_itself : (b : Bridge) (cs : List Call) → NoLater b b cs
no_later_itself b [] = tt
no_later_itself b (c ∷ cs) = ((refl, same refl), no_later_itself (take_of b c).after cs)

reached_weak : (g : ℕ) (cs : List Call) → Weak g (run_of fresh cs) (run_of fresh cs)
reached_weak g cs = (loose_run g fresh fresh (fresh_weak g) cs (together_itself fresh cs)).1

-- ---- the call in which the two histories differ

record Parted (g : ℕ) (o o' : Took) : Type 0 where
  answers : o.answer ≡ o'.answer
  after : (o.after ≡ o'.after) ⊎ Strong g o.after o'.after
  weak : Weak g o.after o'.after

module _ (b : Bridge) (c c' : Call) (l : Larger c c') (weak : Weak l.first.group b b) where
  abbrev g : ℕ
  g = l.first.group

  refused_parted : (why : Refusal) → take_of b c ≡ refused_of b why → take_of b c' ≡ refused_of b why → Parted g (take_of b c) (take_of b c')
  refused_parted why e e' = rw (e, e') (record { answers = refl; after = inl refl; weak = weak })

  taken_parted : eqb (length b.table) filter_count ≡ true → started_of b.bank ≡ false → Parted g (taken_of b c (kind.Scheduler l.first) l.used) (taken_of b c' (kind.Scheduler l.second) l.used')
  unfolding taken_of
  taken_parted whole st =
      let range = read_ranges c false (kind.Scheduler l.first) l.used l.says in
      let range' = read_ranges c' false (kind.Scheduler l.second) l.used' l.says' in
      let h = scheduler_differs g b.bank b.bank (weak.near st) l.first l.second refl (omega (arith, range.2)) l.ids l.groups l.rates (omega (arith, l.bursts)) range'.6 in
      let checked = early_checked b c (eqb-true _ _ whole) st (kind.Scheduler l.first) l.used refl in
      record {
        answers = ap (answered l.used) h.verdicts ∙ ap (λ (n : ℕ). answered n (setUpOf b.bank l.second).verdict) (range.0 ∙ sym range'.0);
        after = inr (record { tables = refl; lists = refl; banks = h.banks; checked = checked });
        weak = record { tables = refl; lists = refl; near = λ _. h.banks; banks = near_apart g _ _ h.banks; checked = checked };
      }

  parted : Parted g (take_of b c) (take_of b c')
  parted = by_tests (eqb (length b.table) filter_count) (started_of b.bank) refl refl
    where
      by_tests : (t u : Bool) → eqb (length b.table) filter_count ≡ t → started_of b.bank ≡ u → Parted g (take_of b c) (take_of b c')
      by_tests false u e st = refused_parted TableLength (take_table b c e) (take_table b c' e)
      by_tests true true e st =
          refused_parted OutOfTurn (take_refused b c OutOfTurn e (ap (read_of c) st ∙ read_late c (kind.Scheduler l.first) l.used l.says))
          (take_refused b c' OutOfTurn e (ap (read_of c') st ∙ read_late c' (kind.Scheduler l.second) l.used' l.says'))
      by_tests true false e st =
          rw (take_taken b c (kind.Scheduler l.first) l.used e (ap (read_of c) st ∙ l.says), take_taken b c' (kind.Scheduler l.second) l.used' e (ap (read_of c') st ∙ l.says'))
          (taken_parted e st)

-- ---- the promise

promise_equal : (g : ℕ) (o o' : Took) (cs : List Call) → o.answer ≡ o'.answer → o.after ≡ o'.after → SameOutside g o.after o'.after cs → Promise g o o' cs
promise_equal g o o' cs a e out = record {
  answers = a;
  no_later = λ _. subst (λ (y : Bridge). NoLater o.after y cs) e (no_later_itself o.after cs);
  spared = λ h. subst (λ (y : Bridge). Spared g y cs) e h;
  besides = λ _. subst (λ (y : Bridge). SameBesides g (run_of o.after cs) (run_of y cs)) e (record { tables = refl; lists = refl; component = refl; ports = λ _. refl; counters = λ _. refl; gates = λ _. refl; gate_states = λ _. refl; meters = λ _. refl; meter_states = λ _. refl; groups = λ _ _. refl; schedulers = λ _ _. refl });
  outside = out;
}

promise_near : (g : ℕ) (o o' : Took) (cs : List Call) → o.answer ≡ o'.answer → Strong g o.after o'.after → StartTogether o.after o'.after cs → SameOutside g o.after o'.after cs → Promise g o o' cs
promise_near g o o' cs a strong together out = record {
  answers = a;
  no_later = λ h. (near_run g o.after o'.after strong cs together h).0;
  spared = λ h. (near_run g o.after o'.after strong cs together h).1;
  besides = λ h. let k = (near_run g o.after o'.after strong cs together h).2 in record { tables = k.tables; lists = k.lists; component = (k.banks component_row).outer (omega arith); ports = λ i. (k.banks (port_row i)).ports (omega arith) (omega arith); counters = λ i. (k.banks (counters_row i)).outer (omega arith); gates = λ i. (k.banks (gate_row i)).outer (omega arith); gate_states = λ i. (k.banks (gate_state_row i)).outer (omega arith); meters = λ i. (k.banks (meter_row i)).outer (omega arith); meter_states = λ i. (k.banks (meter_state_row i)).outer (omega arith); groups = λ j n. (k.banks (group_row j)).groups (omega arith) (omega arith) (λ e. n (omega (arith, e))); schedulers = λ i n. (k.banks (scheduler_row i)).schedulers (omega arith) n };
  outside = out;
}

-- `before`, then the differing call, then `after`: the histories as wholes
pub run_joined : (b : Bridge) (before : List Call) (c : Call) (after : List Call) → run_of b (before ++ (c ∷ after)) ≡ run_of (take_of (run_of b before) c).after after
unfolding run_of
run_joined b [] c after = refl
run_joined b (x ∷ before) c after = run_joined (take_of b x).after before c after

pub larger_burst : (before : List Call) (c c' : Call) (after : List Call) (l : Larger c c')
    → StartTogether (take_of (run_of fresh before) c).after (take_of (run_of fresh before) c').after after
    → Promise l.first.group (take_of (run_of fresh before) c) (take_of (run_of fresh before) c') after
larger_burst before c c' after l together =
    let b = run_of fresh before in
    let h = parted b c c' l (reached_weak l.first.group before) in
    let out = (loose_run l.first.group (take_of b c).after (take_of b c').after h.weak after together).0 in
    by_after h.after h.answers out
  where
    by_after : ((take_of (run_of fresh before) c).after ≡ (take_of (run_of fresh before) c').after) ⊎ Strong l.first.group (take_of (run_of fresh before) c).after (take_of (run_of fresh before) c').after
        → (take_of (run_of fresh before) c).answer ≡ (take_of (run_of fresh before) c').answer → SameOutside l.first.group (take_of (run_of fresh before) c).after (take_of (run_of fresh before) c').after after
        → Promise l.first.group (take_of (run_of fresh before) c) (take_of (run_of fresh before) c') after
    by_after (inl e) a out = promise_equal _ _ _ after a e out
    by_after (inr strong) a out = promise_near _ _ _ after a strong together out
