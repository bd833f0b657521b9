-- The sorts of records that proofs go by: what comes before a start, an arrival, a clear.
use Rattle.std.specs.Prelude.{◌≡◌, refl, ℕ}
use Rattle.std.proofs.Common.{arith}
use Rattle.record.specs.declared.Record.{Record}
use Rattle.record.specs.declared.Record.TheVariants.{Port, Filter, Gate, GateEntry, Meter, Group, Scheduler, Start, Arrival, Clear}
use Rattle.record.specs.declared.ArrivalRecord.{ArrivalRecord}
use Rattle.record.specs.declared.ClearRecord.{ClearRecord}
use Rattle.record.specs.Meaning.{Turn, before, after, Sought, another, an_entry, a_start, an_arrival, a_clear, sought_in, by_arrival, by_clear, of_arrival, of_clear}

-- when a record comes
abbrev turn_by : Sought → Turn
turn_by another = before
turn_by (an_entry r) = before
turn_by (a_start r) = before
turn_by (an_arrival a) = after
turn_by (a_clear r) = after

abbrev pub turn_in : Record → Turn
turn_in r = turn_by (sought_in r)

abbrev pub Setup : Record → Type 0
Setup r = turn_in r ≡ before

pub never_setup : {A : Type 0} → after ≡ before → A
never_setup e = absurd (let z : ◌≡◌ {A = ℕ} 0 1 = cc in omega arith)

pub data Sort : Record → Type 0 where
  setup : {r : Record} → Setup r → Sort r
  arrival : (a : ArrivalRecord) → Sort (Arrival a)
  clear : (r : ClearRecord) → Sort (Clear r)

abbrev pub sort_of : (r : Record) → Sort r
sort_of (Port r) = setup refl
sort_of (Filter r) = setup refl
sort_of (Gate r) = setup refl
sort_of (GateEntry r) = setup refl
sort_of (Meter r) = setup refl
sort_of (Group r) = setup refl
sort_of (Scheduler r) = setup refl
sort_of (Start r) = setup refl
sort_of (Arrival a) = arrival a
sort_of (Clear r) = clear r

-- ---- a setup record is neither an arrival nor a clear

module _ {A : Type 0} (f : ArrivalRecord → A) (g : ClearRecord → A) (x : A) where
  no_arrival : (z : Sought) → turn_by z ≡ before → by_arrival f x z ≡ x
  no_arrival another e = refl
  no_arrival (an_entry r) e = refl
  no_arrival (a_start r) e = refl
  no_arrival (an_arrival a) e = never_setup e
  no_arrival (a_clear r) e = never_setup e

  no_clear : (z : Sought) → turn_by z ≡ before → by_clear g x z ≡ x
  no_clear another e = refl
  no_clear (an_entry r) e = refl
  no_clear (a_start r) e = refl
  no_clear (an_arrival a) e = never_setup e
  no_clear (a_clear r) e = never_setup e

pub setup_arrival : {A : Type 0} (f : ArrivalRecord → A) (x : A) (r : Record) → Setup r → of_arrival f x r ≡ x
setup_arrival f x r = no_arrival f (λ c. x) x (sought_in r)

pub setup_clear : {A : Type 0} (f : ClearRecord → A) (x : A) (r : Record) → Setup r → of_clear f x r ≡ x
setup_clear f x r = no_clear (λ a. x) f x (sought_in r)
