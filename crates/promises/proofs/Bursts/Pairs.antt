-- Two banks compared row by row, the one of a run with a smaller burst and the one of a run with a larger one in group `g`.
-- Outside the group all is equal. What is asked inside it, and of the ports' counters, is given apart: `Near` asks more, `Apart` less.
use Rattle.std.specs.Prelude.{ℕ, ◌+◌, ◌%◌, ◌≤◌, ◌<◌, List, ◌≢◌, ◌≡◌, refl}
use Rattle.std.proofs.Common.{ap, arith}
use Rattle.std.proofs.Math.Decide.{ℕ_discrete}
use Rattle.sizes.specs.Meaning.{group_count}
use Rattle.bucket.specs.Meaning.{grains}
use Rattle.scheduler.proofs.Larger.{Ahead}
use Rattle.bank.specs.Meaning.{Rows, with_row, word, is_set, scheduler_in, component_row, ports_from, gates_from, groups_from, schedulers_from, counters_from}
use Rattle.bank.proofs.Rows.{row_same, row_other}

-- the rows of neither ports, groups nor schedulers
abbrev pub Outer : ℕ → Type 0
Outer q = (ports_from ≤ q → gates_from ≤ q) × (groups_from ≤ q → counters_from ≤ q)

abbrev pub InSchedulers : ℕ → Type 0
InSchedulers q = (schedulers_from ≤ q) × (q < counters_from)

abbrev pub group_named : List ℕ → ℕ
group_named u = word u 1 % group_count

-- what is asked of a pair of rows of ports, of the group's own rows, and of rows of its schedulers
pub record Asked : Type 1 where
  pub Port : List ℕ → List ℕ → Type 0
  pub Group : List ℕ → List ℕ → Type 0
  pub Scheduler : List ℕ → List ℕ → Type 0

-- the two rows at place `q`
pub record Pair (k : Asked) (g q : ℕ) (u v : List ℕ) : Type 0 where
  pub outer : Outer q → u ≡ v
  pub ports : ports_from ≤ q → q < gates_from → k.Port u v
  pub groups : groups_from ≤ q → q < schedulers_from → q ≢ groups_from + g → u ≡ v
  pub group : q ≡ groups_from + g → g < group_count → k.Group u v
  pub set : InSchedulers q → is_set (word u 0) ≡ is_set (word v 0)
  pub named : InSchedulers q → group_named u ≡ group_named v
  pub schedulers : InSchedulers q → group_named u ≢ g → u ≡ v
  pub scheduler : InSchedulers q → group_named u ≡ g → k.Scheduler u v

-- ---- what stays as it is once a start is taken: the classes, the largest overhead, and each scheduler's group and burst

pub record Constants : Type 0 where
  pub classes : ℕ
  pub overhead : ℕ
  pub names : ℕ → ℕ
  pub bursts : ℕ → ℕ

pub record Fixed (z : Constants) (q : ℕ) (u : List ℕ) : Type 0 where
  pub classes : q < 1 → word u 0 ≡ z.classes
  pub overhead : q < 1 → word u 2 ≡ z.overhead
  pub names : InSchedulers q → group_named u ≡ z.names q
  pub bursts : InSchedulers q → (scheduler_in u).burst.0 ≡ z.bursts q

abbrev pub constants_in : Rows → Constants
constants_in s = record { classes = word (s 0) 0; overhead = word (s 0) 2; names = λ q. group_named (s q); bursts = λ q. (scheduler_in (s q)).burst.0 }

-- the pair at a place, and what stays of the first
pub record At (k : Asked) (z : Constants) (g q : ℕ) (u v : List ℕ) : Type 0 where
  pub pair : Pair k g q u v
  pub fixed : Fixed z q u

-- every pair of rows
abbrev pub Over : Asked → Constants → ℕ → Rows → Rows → Type 0
Over k z g s s' = (q : ℕ) → At k z g q (s q) (s' q)

abbrev pub Pairs : Asked → ℕ → Rows → Rows → Type 0
Pairs k g s s' = (q : ℕ) → Pair k g q (s q) (s' q)

at_component : (s : Rows) (q k : ℕ) → q < 1 → word (s q) k ≡ word (s 0) k
at_component s q k h = let e : q ≡ 0 = omega arith in ap (λ (n : ℕ). word (s n) k) e

pub with_constants : (k : Asked) (g : ℕ) (s s' : Rows) → Pairs k g s s' → Over k (constants_in s) g s s'
with_constants k g s s' o q = record { pair = o q; fixed = record { classes = at_component s q 0; overhead = at_component s q 2; names = λ _. refl; bursts = λ _. refl } }

-- ---- stores into both, or into one

module _ (P : ℕ → List ℕ → List ℕ → Type 0) (s s' : Rows) (o : (q : ℕ) → P q (s q) (s' q)) (r : ℕ) where
  pub put : (vs vs' : List ℕ) → P r vs vs' → (q : ℕ) → P q (with_row s r vs q) (with_row s' r vs' q)
  put vs vs' h q = at_place q (ℕ_discrete q r)
    where
      at_place : (q : ℕ) → Dec (q ≡ r) → P q (with_row s r vs q) (with_row s' r vs' q)
      at_place q (yes e) = rw (e, row_same s r vs, row_same s' r vs') h
      at_place q (no n) = rw (row_other s r vs q n, row_other s' r vs' q n) (o q)

  pub put_left : (vs : List ℕ) → P r vs (s' r) → (q : ℕ) → P q (with_row s r vs q) (s' q)
  put_left vs h q = at_place q (ℕ_discrete q r)
    where
      at_place : (q : ℕ) → Dec (q ≡ r) → P q (with_row s r vs q) (s' q)
      at_place q (yes e) = rw (e, row_same s r vs) h
      at_place q (no n) = rw (row_other s r vs q n) (o q)

  pub put_right : (vs' : List ℕ) → P r (s r) vs' → (q : ℕ) → P q (s q) (with_row s' r vs' q)
  put_right vs' h q = at_place q (ℕ_discrete q r)
    where
      at_place : (q : ℕ) → Dec (q ≡ r) → P q (s q) (with_row s' r vs' q)
      at_place q (yes e) = rw (e, row_same s' r vs') h
      at_place q (no n) = rw (row_other s' r vs' q n) (o q)

-- the same row outside
pub outer_same : (k : Asked) (z : Constants) (g q : ℕ) (u v : List ℕ) → component_row < q → Outer q → u ≡ v → At k z g q u v
outer_same k z g q u v low out e = record {
  pair = record {
    outer = λ _. e;
    ports = λ l m. absurd (omega (arith, m, out.0 l));
    groups = λ l m n. e;
    group = λ l m. absurd (omega (arith, l, m, out.1 (omega (arith, l))));
    set = λ l. absurd (omega (arith, l, out.1 (omega (arith, l))));
    named = λ l. absurd (omega (arith, l, out.1 (omega (arith, l))));
    schedulers = λ l m. e;
    scheduler = λ l m. absurd (omega (arith, l, out.1 (omega (arith, l))));
  };
  fixed = record {
    classes = λ l. absurd (omega (arith, l));
    overhead = λ l. absurd (omega (arith, l));
    names = λ l. absurd (omega (arith, l, out.1 (omega (arith, l))));
    bursts = λ l. absurd (omega (arith, l, out.1 (omega (arith, l))));
  };
}

-- the component's row
pub component_pair : (k : Asked) (g : ℕ) (u v : List ℕ) → u ≡ v → Pair k g 0 u v
component_pair k g u v e = record {
  outer = λ _. e;
  ports = λ l m. absurd (omega (arith, l));
  groups = λ l m n. e;
  group = λ l m. absurd (omega (arith, l));
  set = λ l. absurd (omega (arith, l));
  named = λ l. absurd (omega (arith, l));
  schedulers = λ l m. e;
  scheduler = λ l m. absurd (omega (arith, l));
}

-- ---- before the first run drops one of the group's frames: nothing differs outside it; inside, the second's times are no later, and its buckets never hold less from the first's last time on

pub record GroupNear (u v : List ℕ) : Type 0 where
  pub set : is_set (word u 0) ≡ is_set (word v 0)
  pub residence : word u 1 ≡ word v 1
  pub last : word v 2 ≤ word u 2

-- the second is, besides, in range: what a step asks of it
pub record SchedulerNear (u v : List ℕ) : Type 0 where
  pub ahead : Ahead (scheduler_in u) (scheduler_in v)
  pub burst : (scheduler_in v).burst.0 ≤ 1_000_000
  pub level : (scheduler_in v).level ≤ grains (scheduler_in v).burst.0

abbrev pub near : Asked
near = record { Port = λ u v. u ≡ v; Group = GroupNear; Scheduler = SchedulerNear }

abbrev pub Near : ℕ → Rows → Rows → Type 0
Near g s s' = Pairs near g s s'

-- ---- always: nothing differs outside the group but the ports' counts of discarded frames

pub record PortApart (u v : List ℕ) : Type 0 where
  pub overhead : word u 1 ≡ word v 1

pub record SchedulerApart (u v : List ℕ) : Type 0 where
  pub burst : (scheduler_in u).burst.0 ≤ (scheduler_in v).burst.0

abbrev pub apart : Asked
apart = record { Port = PortApart; Group = λ u v. Unit {0}; Scheduler = SchedulerApart }

abbrev pub Apart : ℕ → Rows → Rows → Type 0
Apart g s s' = Pairs apart g s s'

pub near_apart : (g : ℕ) (s s' : Rows) → Near g s s' → Apart g s s'
near_apart g s s' o q = record {
  outer = (o q).outer;
  ports = λ l m. record { overhead = ap (λ (u : List ℕ). word u 1) ((o q).ports l m) };
  groups = (o q).groups;
  group = λ l m. tt;
  set = (o q).set;
  named = (o q).named;
  schedulers = (o q).schedulers;
  scheduler = λ l m. record { burst = ((o q).scheduler l m).ahead.bursts };
}
