-- The numbers of the bank are those that records and frames can have written: the invariant of every history, and what a store into one row keeps of it.
use Rattle.std.specs.Prelude.{ℕ, ◌+◌, ◌%◌, ◌≤◌, ◌^◌, Bool, true, List, ◌≡◌}
use Rattle.std.proofs.Common.{sym, ap, ◌∙◌, arith}
use Rattle.sizes.specs.Meaning.{group_count}
use Rattle.bucket.specs.Meaning.{grains}
use Rattle.meter.specs.declared.Meter.{Meter}
use Rattle.meter.specs.Range.{Sound as MeterSound}
use Rattle.scheduler.specs.declared.Scheduler.{Scheduler}
use Rattle.bank.specs.declared.Component.{Component}
use Rattle.bank.specs.declared.Group.{Group}
use Rattle.bank.specs.Meaning.{Rows, port_row, meter_row, meter_state_row, group_row, scheduler_row, word, is_set, component, port_in, port, meter, group_in, group, scheduler, scheduler_is_set, scheduler_group}
use Rattle.stage.specs.Meaning.{started_of}

-- ---- what is asked of each table

pub record SchedulerSound (set : Bool) (x : Scheduler) : Type 0 where
  pub rate_low : set ≡ true → 1 ≤ x.rate.0
  pub rate_high : x.rate.0 ≤ 10_000_000_000
  pub burst_low : set ≡ true → 1 ≤ x.burst.0
  pub burst_high : x.burst.0 ≤ 1_000_000
  pub level_high : x.level ≤ grains x.burst.0
  pub last_high : x.last ≤ 2 ^ 62 + 1_000_000_000

pub record GroupSound (x : Group) : Type 0 where
  pub residence_low : x.set ≡ true → 1 ≤ x.residence
  pub residence_high : x.residence ≤ 1_000_000_000
  pub last_high : x.last ≤ 2 ^ 62 + 1_000_000_000

-- a meter's last fill is no later than the clock
pub record MeterFilled (clock : ℕ) (m : Meter) : Type 0 where
  pub sound : MeterSound m
  pub last_high : m.last ≤ clock

-- once a start is taken, no scheduler is without its group
abbrev pub Complete : Rows → Type 0
Complete s = started_of s ≡ true → (i : ℕ) → scheduler_is_set s i ≡ true → (group s (scheduler_group s i)).set ≡ true

pub record Sound (s : Rows) : Type 0 where
  pub classes : (component s).classes ≤ 8
  pub clock : (component s).clock ≤ 2 ^ 62
  pub ports : (i : ℕ) → (port s i).overhead ≤ (component s).overhead
  pub meters : (i : ℕ) → MeterFilled (component s).clock (meter s i)
  pub groups : (i : ℕ) → GroupSound (group s i)
  pub schedulers : (i : ℕ) → SchedulerSound (scheduler_is_set s i) (scheduler s i)
  pub complete : Complete s

-- ---- what another bank keeps of it, table by table

module _ (s t : Rows) (k : Sound s) where
  pub ports_kept : (component s).overhead ≤ (component t).overhead → ((i : ℕ) → t (port_row i) ≡ s (port_row i)) → (i : ℕ) → (port t i).overhead ≤ (component t).overhead
  ports_kept h e i = omega (arith, h, k.ports i, ap (λ (u : List ℕ). (port_in u).overhead) (e i))

  pub meters_kept : (component s).clock ≤ (component t).clock → ((i : ℕ) → t (meter_row i) ≡ s (meter_row i)) → ((i : ℕ) → t (meter_state_row i) ≡ s (meter_state_row i)) → (i : ℕ) → MeterFilled (component t).clock (meter t i)
  meters_kept h e e' i = rw (e i, e' i) (record { sound = (k.meters i).sound; last_high = omega (arith, h, (k.meters i).last_high) })

  pub groups_kept : ((i : ℕ) → t (group_row i) ≡ s (group_row i)) → (i : ℕ) → GroupSound (group t i)
  groups_kept e i = rw (e i) (k.groups i)

  pub schedulers_kept : ((i : ℕ) → t (scheduler_row i) ≡ s (scheduler_row i)) → (i : ℕ) → SchedulerSound (scheduler_is_set t i) (scheduler t i)
  schedulers_kept e i = rw (e i) (k.schedulers i)

  pub complete_kept : (component t).classes ≡ (component s).classes → ((i : ℕ) → scheduler_is_set t i ≡ scheduler_is_set s i) → ((i : ℕ) → scheduler_group t i ≡ scheduler_group s i) → ((i : ℕ) → (group t i).set ≡ (group s i).set) → Complete t
  complete_kept c e e' e'' begun i h =
      e'' (scheduler_group t i) ∙ ap (λ (j : ℕ). (group s j).set) (e' i) ∙ k.complete (ap is_set (sym c) ∙ begun) i (sym (e i) ∙ h)

  pub rows_complete : (component t).classes ≡ (component s).classes → ((i : ℕ) → t (group_row i) ≡ s (group_row i)) → ((i : ℕ) → t (scheduler_row i) ≡ s (scheduler_row i)) → Complete t
  rows_complete c g e =
      complete_kept c (λ i. ap (λ (u : List ℕ). is_set (word u 0)) (e i)) (λ i. ap (λ (u : List ℕ). word u 1 % group_count) (e i)) (λ i. ap (λ (u : List ℕ). (group_in u).set) (g i))

  -- where the component is the same, what is asked of the tables is enough
  module _ (c : component t ≡ component s) where
    pub same_classes : (component t).classes ≡ (component s).classes
    same_classes = ap (λ (x : Component). x.classes) c

    pub same_clock : (component t).clock ≡ (component s).clock
    same_clock = ap (λ (x : Component). x.clock) c

    pub same_overhead : (component t).overhead ≡ (component s).overhead
    same_overhead = ap (λ (x : Component). x.overhead) c

    pub sound_by : ((i : ℕ) → (port t i).overhead ≤ (component t).overhead) → ((i : ℕ) → MeterFilled (component t).clock (meter t i)) → ((i : ℕ) → GroupSound (group t i)) → ((i : ℕ) → SchedulerSound (scheduler_is_set t i) (scheduler t i)) → Complete t
        → Sound t
    sound_by p m g x w = record { classes = omega (arith, k.classes, same_classes); clock = omega (arith, k.clock, same_clock); ports = p; meters = m; groups = g; schedulers = x; complete = w }
