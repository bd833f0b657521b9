-- The cases of `painted_of` and `colour_of`, each from the facts that a step has in hand.
use Rattle.std.specs.Prelude.{ℕ, ◌≤◌, ◌<◌, Bool, true, false, not, ◌&&◌, ◌||◌, ◌≡◌, leb}
use borrow.Author.Tests.{le-leb, lt-leb}
use Rattle.bucket.specs.Meaning.{grains}
use Rattle.bucket.specs.declared.Octets.{Octets}
use Rattle.meter.specs.declared.Meter.{Meter}
use Rattle.meter.specs.declared.Outcome.TheVariants.{OutOfRange, TooEarly}
use Rattle.meter.specs.Meaning.{painted_of, colour_of, filled_of, meter_in_range, painted_stopped, painted_green, painted_yellow, painted_red, meter_refused}

module _ (m : Meter) (need : ℕ) (eligible : Bool) where
  -- whether the committed bucket takes the frame
  abbrev pub takes : Bool
  takes = (not eligible || not m.colour_aware) && leb need m.committed

  pub painted_stopped_lem : m.red_flag ≡ true → painted_of m need eligible ≡ painted_stopped m
  unfolding painted_of
  painted_stopped_lem e = rw e

  module _ (flag : m.red_flag ≡ false) where
    pub painted_green_lem : takes ≡ true → painted_of m need eligible ≡ painted_green m need
    unfolding painted_of
    painted_green_lem e = rw (flag, e)

    pub painted_yellow_lem : takes ≡ false → need ≤ m.excess → painted_of m need eligible ≡ painted_yellow m need
    unfolding painted_of
    painted_yellow_lem e h = rw (flag, e, le-leb _ _ h)

    pub painted_red_lem : takes ≡ false → m.excess < need → painted_of m need eligible ≡ painted_red m
    unfolding painted_of
    painted_red_lem e h = rw (flag, e, lt-leb _ _ h)

module _ (m : Meter) (time : ℕ) (msdu : Octets) (eligible : Bool) where
  pub colour_out_of_range : meter_in_range m time msdu ≡ false → colour_of m time msdu eligible ≡ meter_refused m OutOfRange
  unfolding colour_of
  colour_out_of_range e = rw e

  pub colour_too_early : meter_in_range m time msdu ≡ true → time < m.last → colour_of m time msdu eligible ≡ meter_refused m TooEarly
  unfolding colour_of
  colour_too_early e h = rw (e, lt-leb _ _ h)

  pub colour_painted : meter_in_range m time msdu ≡ true → m.last ≤ time → colour_of m time msdu eligible ≡ painted_of (filled_of m time) (grains msdu.0) eligible
  unfolding colour_of
  colour_painted e h = rw (e, le-leb _ _ h)
