-- Each store that a call makes keeps the numbers of the bank sound, if what is stored is.
use Rattle.std.specs.Prelude.{ℕ, ◌+◌, ◌%◌, ◌≤◌, ◌<◌, ◌^◌, true, false, List, ◌≢◌, ◌≡◌}
use Rattle.std.proofs.Common.{sym, ap, subst, ◌∙◌, arith}
use Rattle.std.proofs.Math.Decide.{ℕ_discrete}
use Rattle.logic.specs.Laws.{contrary}
use Rattle.bucket.specs.Meaning.{grains}
use Rattle.meter.specs.declared.Meter.{Meter}
use Rattle.scheduler.specs.declared.Scheduler.{Scheduler}
use Rattle.bank.specs.declared.Component.{Component}
use Rattle.bank.specs.declared.Port.{Port}
use Rattle.bank.specs.declared.Group.{Group}
use Rattle.bank.specs.Meaning.{Rows, with_row, component_in, scheduler_is_set, component_row, gates_from, meters_from, counters_from, port_row, meter_row, meter_state_row, group_row, scheduler_row, word, is_set, row_with, row_of_port, with_port, row_of_meter, row_of_meter_state, with_meter, row_of_group, with_group, row_of_scheduler, with_scheduler, groups_from, row_of_scheduler_state, component, with_clock, port_in, port, with_discarded, meter, with_meter_state, group_in, group, with_group_last, scheduler_in, scheduler, with_scheduler_state}
use Rattle.bank.proofs.Rows.{row_same, row_other, row_holds}
use Rattle.bank.proofs.Laws.{clock_same, component_frame, meter_with, meter_state_same, meter_same, is_set_back, discarded_keeps_overhead, group_last_keeps_set, scheduler_is_set_frame, scheduler_group_frame, scheduler_state_keeps_set, scheduler_state_keeps_group}
use Rattle.stage.specs.Meaning.{started_of}
use Rattle.promises.proofs.Sound.Bounds.{SchedulerSound, GroupSound, MeterFilled, Complete, Sound, ports_kept, meters_kept, groups_kept, schedulers_kept, complete_kept, rows_complete, same_classes, same_clock, same_overhead, sound_by}

module _ (s : Rows) (k : Sound s) where
  -- the rows of gates and of counters are not asked for
  pub aside_sound : (t : Rows) → ((q : ℕ) → (gates_from ≤ q → meters_from ≤ q) → q < counters_from → t q ≡ s q) → Sound t
  aside_sound t e =
      let c : component t ≡ component s = ap component_in (e component_row (λ l. omega arith) (omega arith)) in
      let g : (i : ℕ) → t (group_row i) ≡ s (group_row i) = λ i. e (group_row i) (λ l. omega arith) (omega arith) in
      let x : (i : ℕ) → t (scheduler_row i) ≡ s (scheduler_row i) = λ i. e (scheduler_row i) (λ l. omega arith) (omega arith) in
      sound_by s t k c (ports_kept s t k (omega (arith, same_overhead s t k c)) (λ i. e (port_row i) (λ l. omega (arith, l)) (omega arith)))
      (meters_kept s t k (omega (arith, same_clock s t k c)) (λ i. e (meter_row i) (λ l. omega arith) (omega arith)) (λ i. e (meter_state_row i) (λ l. omega arith) (omega arith)))
      (groups_kept s t k g) (schedulers_kept s t k x) (rows_complete s t k (same_classes s t k c) g x)

  -- the component's own row: its clock and its largest overhead never shrink
  pub component_sound : (vs : List ℕ) → (let t = with_row s component_row vs in (component_in vs).classes ≤ 8 → (component s).clock ≤ (component_in vs).clock → (component_in vs).clock ≤ 2 ^ 62 → (component s).overhead ≤ (component_in vs).overhead → Complete t → Sound t)
  component_sound vs few later high larger whole =
      let t : Rows = with_row s component_row vs in
      let c : component t ≡ component_in vs = ap component_in (row_same s component_row vs) in
      let same = row_other s component_row vs in
      record {
        classes = omega (arith, few, ap (λ (x : Component). x.classes) c);
        clock = omega (arith, high, ap (λ (x : Component). x.clock) c);
        ports = ports_kept s t k (omega (arith, larger, ap (λ (x : Component). x.overhead) c)) (λ i. same (port_row i) (omega arith));
        meters = meters_kept s t k (omega (arith, later, ap (λ (x : Component). x.clock) c)) (λ i. same (meter_row i) (omega arith)) (λ i. same (meter_state_row i) (omega arith));
        groups = groups_kept s t k (λ i. same (group_row i) (omega arith));
        schedulers = schedulers_kept s t k (λ i. same (scheduler_row i) (omega arith));
        complete = whole;
      }

  pub clock_sound : (time : ℕ) → (component s).clock ≤ time → time ≤ 2 ^ 62 → Sound (with_clock s time)
  clock_sound time later high =
      let same = row_other s component_row (row_with (s component_row) 1 time) in
      component_sound _ k.classes later high (omega arith)
      (rows_complete s (with_clock s time) k (ap (λ (x : Component). x.classes) (clock_same s time)) (λ i. same (group_row i) (omega arith)) (λ i. same (scheduler_row i) (omega arith)))

  -- the meters' rows
  pub meters_sound : (t : Rows) → ((q : ℕ) → (meters_from ≤ q → groups_from ≤ q) → t q ≡ s q) → ((i : ℕ) → MeterFilled (component s).clock (meter t i)) → Sound t
  meters_sound t e m =
      let c : component t ≡ component s = ap component_in (e component_row (λ l. omega (arith, l))) in
      let g : (i : ℕ) → t (group_row i) ≡ s (group_row i) = λ i. e (group_row i) (λ l. omega arith) in
      let x : (i : ℕ) → t (scheduler_row i) ≡ s (scheduler_row i) = λ i. e (scheduler_row i) (λ l. omega arith) in
      sound_by s t k c (ports_kept s t k (omega (arith, same_overhead s t k c)) (λ i. e (port_row i) (λ l. omega (arith, l)))) (λ i. rw (same_clock s t k c) (m i))
      (groups_kept s t k g) (schedulers_kept s t k x) (rows_complete s t k (same_classes s t k c) g x)

  pub meter_state_sound : (i : ℕ) (x : Meter) → MeterFilled (component s).clock (meter_with (meter s i) x) → Sound (with_meter_state s i x)
  meter_state_sound i x h =
      meters_sound (with_meter_state s i x) (λ q n. row_other s (meter_state_row i) (row_of_meter_state x) q (λ e. omega (arith, e, n (omega (arith, e))))) (λ j. by_row j (ℕ_discrete (meter_state_row j) (meter_state_row i)))
    where
      by_row : (j : ℕ) → Dec (meter_state_row j ≡ meter_state_row i) → MeterFilled (component s).clock (meter (with_meter_state s i x) j)
      by_row j (yes e) = let own : meter_row j ≡ meter_row i = omega (arith, e) in rw (e, own) (subst (MeterFilled (component s).clock) (sym (meter_state_same s i x)) h)
      by_row j (no n) = rw (row_other s (meter_state_row i) (row_of_meter_state x) (meter_row j) (omega arith), row_other s (meter_state_row i) (row_of_meter_state x) (meter_state_row j) n) (k.meters j)

  -- both rows of a meter
  pub meter_sound : (i : ℕ) (x : Meter) → MeterFilled (component s).clock x → Sound (with_meter s i x)
  meter_sound i x h =
      meters_sound (with_meter s i x) (λ q n. others q (λ e. omega (arith, e, n (omega (arith, e)))) (λ e. omega (arith, e, n (omega (arith, e))))) (λ j. by_row j (ℕ_discrete (meter_row j) (meter_row i)))
    where
      others : (q : ℕ) → q ≢ meter_row i → q ≢ meter_state_row i → with_meter s i x q ≡ s q
      others q n n' = row_other (with_row s (meter_row i) (row_of_meter x)) (meter_state_row i) (row_of_meter_state x) q n' ∙ row_other s (meter_row i) (row_of_meter x) q n

      by_row : (j : ℕ) → Dec (meter_row j ≡ meter_row i) → MeterFilled (component s).clock (meter (with_meter s i x) j)
      by_row j (yes e) =
          let own : meter_state_row j ≡ meter_state_row i = omega (arith, e) in
          rw (e, own) (subst (MeterFilled (component s).clock) (sym (meter_same s i x (omega (arith, h.sound.cbs_high)) (omega (arith, h.sound.ebs_high)))) h)
      by_row j (no n) = rw (others (meter_row j) n (omega arith), others (meter_state_row j) (omega arith) (omega (arith, n))) (k.meters j)

  -- ---- a store into a row of one table, beside the component: the others are as they were

  module _ (r : ℕ) (vs : List ℕ) (low : component_row < r) where
    abbrev pub stored : Rows
    stored = with_row s r vs

    abbrev pub Keeps : (ℕ → ℕ) → Type 0
    Keeps row_at = (i : ℕ) → row_at i ≢ r

    pub beside : component stored ≡ component s
    beside = component_frame s r vs (omega (arith, low))

    pub ports_beside : Keeps port_row → (i : ℕ) → (port stored i).overhead ≤ (component stored).overhead
    ports_beside n = ports_kept s stored k (omega (arith, same_overhead s stored k beside)) (λ i. row_other s r vs (port_row i) (n i))

    pub meters_beside : Keeps meter_row → Keeps meter_state_row → (i : ℕ) → MeterFilled (component stored).clock (meter stored i)
    meters_beside n n' = meters_kept s stored k (omega (arith, same_clock s stored k beside)) (λ i. row_other s r vs (meter_row i) (n i)) (λ i. row_other s r vs (meter_state_row i) (n' i))

    pub groups_beside : Keeps group_row → (i : ℕ) → GroupSound (group stored i)
    groups_beside n = groups_kept s stored k (λ i. row_other s r vs (group_row i) (n i))

    pub schedulers_beside : Keeps scheduler_row → (i : ℕ) → SchedulerSound (scheduler_is_set stored i) (scheduler stored i)
    schedulers_beside n = schedulers_kept s stored k (λ i. row_other s r vs (scheduler_row i) (n i))

    pub complete_beside : Keeps group_row → Keeps scheduler_row → Complete stored
    complete_beside n n' = rows_complete s stored k (same_classes s stored k beside) (λ i. row_other s r vs (group_row i) (n i)) (λ i. row_other s r vs (scheduler_row i) (n' i))

  -- a port counts a discarded frame
  pub discarded_sound : (p n : ℕ) → Sound (with_discarded s p n)
  discarded_sound p n =
      let r : ℕ = port_row p in
      let vs : List ℕ = row_with (s (port_row p)) 2 n in
      let low : component_row < port_row p = omega arith in
      sound_by s (stored r vs low) k (beside r vs low)
      (λ i. omega (arith, k.ports i, discarded_keeps_overhead s p n i, same_overhead s (stored r vs low) k (beside r vs low)))
      (meters_beside r vs low (λ i. omega arith) (λ i. omega arith)) (groups_beside r vs low (λ i. omega arith)) (schedulers_beside r vs low (λ i. omega arith)) (complete_beside r vs low (λ i. omega arith) (λ i. omega arith))

  -- a port's record: its overhead is at most the largest
  pub port_sound : (p : ℕ) (x : Port) → x.overhead ≤ (component s).overhead → Sound (with_port s p x)
  port_sound p x h =
      let r : ℕ = port_row p in
      let vs : List ℕ = row_of_port x in
      let low : component_row < port_row p = omega arith in
      sound_by s (stored r vs low) k (beside r vs low)
      (λ i. rw (same_overhead s (stored r vs low) k (beside r vs low)) (row_holds (λ u. (port_in u).overhead ≤ (component s).overhead) s r vs (omega (arith, h)) (port_row i) (k.ports i)))
      (meters_beside r vs low (λ i. omega arith) (λ i. omega arith)) (groups_beside r vs low (λ i. omega arith)) (schedulers_beside r vs low (λ i. omega arith)) (complete_beside r vs low (λ i. omega arith) (λ i. omega arith))

  -- a group's last time
  pub group_last_sound : (j at : ℕ) → at ≤ 2 ^ 62 + 1_000_000_000 → Sound (with_group_last s j at)
  group_last_sound j at h =
      let r : ℕ = group_row j in
      let vs : List ℕ = row_with (s (group_row j)) 2 at in
      let low : component_row < group_row j = omega arith in
      let own : GroupSound (group_in vs) = record { residence_low = (k.groups j).residence_low; residence_high = (k.groups j).residence_high; last_high = h } in
      sound_by s (stored r vs low) k (beside r vs low) (ports_beside r vs low (λ i. omega arith)) (meters_beside r vs low (λ i. omega arith) (λ i. omega arith)) (λ i. row_holds (λ u. GroupSound (group_in u)) s r vs own (group_row i) (k.groups i))
      (schedulers_beside r vs low (λ i. omega arith))
      (complete_kept s (with_group_last s j at) k (same_classes s (stored r vs low) k (beside r vs low)) (λ i. scheduler_is_set_frame s i r vs (omega arith)) (λ i. scheduler_group_frame s i r vs (omega arith)) (group_last_keeps_set s j at))

  -- a scheduler's bucket and last time
  pub scheduler_state_sound : (i : ℕ) (x : Scheduler) → x.level ≤ grains (scheduler s i).burst.0 → x.last ≤ 2 ^ 62 + 1_000_000_000 → Sound (with_scheduler_state s i x)
  scheduler_state_sound i x h h' =
      let r : ℕ = scheduler_row i in
      let vs : List ℕ = row_of_scheduler_state (s (scheduler_row i)) x in
      let low : component_row < scheduler_row i = omega arith in
      let y = k.schedulers i in
      let own : SchedulerSound (is_set (word vs 0)) (scheduler_in vs) =
      record { rate_low = y.rate_low; rate_high = y.rate_high; burst_low = y.burst_low; burst_high = y.burst_high; level_high = h; last_high = h' } in
      sound_by s (stored r vs low) k (beside r vs low) (ports_beside r vs low (λ j. omega arith)) (meters_beside r vs low (λ j. omega arith) (λ j. omega arith)) (groups_beside r vs low (λ j. omega arith))
      (λ j. row_holds (λ u. SchedulerSound (is_set (word u 0)) (scheduler_in u)) s r vs own (scheduler_row j) (k.schedulers j))
      (complete_kept s (with_scheduler_state s i x) k (same_classes s (stored r vs low) k (beside r vs low)) (scheduler_state_keeps_set s i x) (scheduler_state_keeps_group s i x) (λ j. ap (λ (u : List ℕ). (group_in u).set) (row_other s r vs (group_row j) (omega arith))))

  -- ---- what is set up before a start is taken

  module _ (before : started_of s ≡ false) where
    unstarted : (t : Rows) → component t ≡ component s → Complete t
    unstarted t c begun = contrary (started_of s) (ap (λ (x : Component). is_set x.classes) (sym c) ∙ begun) before

    pub group_sound : (j : ℕ) (x : Group) → GroupSound x → Sound (with_group s j x)
    group_sound j x h =
        let r : ℕ = group_row j in
        let vs : List ℕ = row_of_group x in
        let low : component_row < group_row j = omega arith in
        let own : GroupSound (group_in vs) = record { residence_low = λ e. h.residence_low (sym (is_set_back x.set) ∙ e); residence_high = h.residence_high; last_high = h.last_high } in
        sound_by s (stored r vs low) k (beside r vs low) (ports_beside r vs low (λ i. omega arith)) (meters_beside r vs low (λ i. omega arith) (λ i. omega arith)) (λ i. row_holds (λ u. GroupSound (group_in u)) s r vs own (group_row i) (k.groups i))
        (schedulers_beside r vs low (λ i. omega arith)) (unstarted (with_group s j x) (beside r vs low))

    pub scheduler_sound : (i g : ℕ) (x : Scheduler) → SchedulerSound true x → Sound (with_scheduler s i g x)
    scheduler_sound i g x h =
        let r : ℕ = scheduler_row i in
        let vs : List ℕ = row_of_scheduler g x in
        let low : component_row < scheduler_row i = omega arith in
        let e : x.burst.0 % 2 ^ 32 ≡ x.burst.0 = omega (arith, h.burst_high) in
        let same : x ≡ scheduler_in vs = λ n. record { rate = x.rate; burst = record { 0 = sym e n }; level = x.level; last = x.last } in
        sound_by s (stored r vs low) k (beside r vs low) (ports_beside r vs low (λ j. omega arith)) (meters_beside r vs low (λ j. omega arith) (λ j. omega arith)) (groups_beside r vs low (λ j. omega arith))
        (λ j. row_holds (λ u. SchedulerSound (is_set (word u 0)) (scheduler_in u)) s r vs (subst (SchedulerSound true) same h) (scheduler_row j) (k.schedulers j)) (unstarted (with_scheduler s i g x) (beside r vs low))
