-- ★A to ★L of document 01 in one table, computed by the definitions that the contracts cite.
use Rattle.std.specs.Prelude.{ℕ, false, cond, List, [], ◌∷◌, ◌++◌, ◌≡◌, refl, eqb, Some, None}
use Rattle.std.specs.Prelude.{Option}
use Rattle.class.specs.Meaning.{traffic_class_of, class_rows}
use Rattle.gate.specs.Meaning.{entries_from, entries_of, cycle_of, found_of, in_force_of, no_limit, spent_of, limited_of, passed_of, gate_step_of, Frame, gate_after as gateAfterOf}
use Rattle.gate.proofs.Worked.{Row, figures_of, figure_gate, figure_list, frames_f, frames_g, frames_h, frames_i}
use Rattle.meter.specs.declared.Outcome.{Outcome as MeterOutcome}
use Rattle.meter.specs.declared.Outcome.TheVariants as meter
use Rattle.meter.specs.Meaning.{filled_of, painted_of, colour_of, meter_in_range as meterInRangeOf, meter_number_of}
use Rattle.meter.proofs.Worked.{worked, frame, frames_j, outcomes_of, after_of as meterAfterOf}
use Rattle.scheduler.specs.declared.Scheduler.{Scheduler}
use Rattle.scheduler.specs.declared.Outcome.{Outcome as SchedulerOutcome}
use Rattle.scheduler.specs.declared.Outcome.TheVariants as scheduler
use Rattle.scheduler.specs.Meaning.{scheduler_step_of, scheduler_in_range as schedulerInRangeOf, scheduler_number_of}
use Rattle.scheduler.specs.Worked.{S, full, outcomes_after, last_of}

-- what a frame gets: eligible at a time; dropped with a number; through the gate with so many octets left, or without limit; a colour; a class
pub data Figure : Type 0 where
  eligible : ℕ → Figure
  drop : ℕ → Figure
  left : ℕ → Figure
  unlimited : Figure
  green : Figure
  yellow : Figure
  red : Figure
  class : ℕ → Figure
  refused : ℕ → Figure

pub data Star : Type 0 where
  A : Star
  B : Star
  C : Star
  D : Star
  E : Star
  F : Star
  G : Star
  H : Star
  I : Star
  J : Star
  K : Star
  L : Star

pub record Case : Type 0 where
  pub star : Star
  pub figures : List Figure

abbrev pub case : Star → List Figure → Case
case s fs = record { star = s; figures = fs }

unfoldable pub each : {X : Type 0} → (X → Figure) → List X → List Figure
each f [] = []
each f (x ∷ xs) = f x ∷ each f xs

-- ---- schedulers: frames of 500 octets, residence 10,000

abbrev pub of_scheduler : SchedulerOutcome → Figure
of_scheduler (scheduler.Admitted at) = eligible at
of_scheduler scheduler.Dropped = drop (scheduler_number_of scheduler.Dropped)
of_scheduler scheduler.Refused = refused (scheduler_number_of scheduler.Refused)

-- frames at the times of a list, after those at the times of an earlier one
abbrev pub through : Scheduler → List ℕ → List ℕ → List Figure
through s earlier times =
    let before = last_of s 0 10_000 500 earlier in
    each of_scheduler (outcomes_after before.scheduler before.group 10_000 500 times)

-- a full S, whose group's last time is that after such frames through another S
abbrev pub beside : List ℕ → List ℕ → List Figure
beside earlier times = each of_scheduler (outcomes_after S (last_of S 0 10_000 500 earlier).group 10_000 500 times)

-- ---- the gate: frames after earlier ones

abbrev pub of_gate : Row → Figure
of_gate r = cond (eqb r.number 0) (cond (eqb r.left no_limit) unlimited (left r.left)) (drop r.number)

abbrev pub at_gate : List Frame → List Frame → List Figure
at_gate earlier frames = each of_gate (figures_of (gateAfterOf figure_gate (entries_of figure_list) earlier) (entries_of figure_list) frames)

-- ---- the meter and the class

abbrev pub of_meter : MeterOutcome → Figure
of_meter meter.Green = green
of_meter meter.Yellow = yellow
of_meter meter.YellowDropped = drop (meter_number_of meter.YellowDropped)
of_meter meter.Red = red
of_meter meter.OutOfRange = refused (meter_number_of meter.OutOfRange)
of_meter meter.TooEarly = refused (meter_number_of meter.TooEarly)

abbrev pub of_class : Option ℕ → Figure
of_class (Some c) = class c
of_class None = refused 3

-- ---- the table

unfoldable pub computed : List Case
computed =
    case A (through S [] (0 ∷ 0 ∷ 0 ∷ 0 ∷ []))
    ∷ case B (through S (0 ∷ 0 ∷ 0 ∷ 0 ∷ []) (0 ∷ []))
    ∷ case C (through S (0 ∷ 0 ∷ 0 ∷ 0 ∷ 0 ∷ []) (2000 ∷ []))
    ∷ case D (through (full 3_000_000_000 1000) [] (0 ∷ 0 ∷ 0 ∷ 0 ∷ 0 ∷ []))
    ∷ case E (beside (0 ∷ 0 ∷ 0 ∷ []) (0 ∷ []))
    ∷ case F (at_gate [] frames_f)
    ∷ case G (at_gate frames_f frames_g)
    ∷ case H (at_gate (frames_f ++ frames_g) frames_h)
    ∷ case I (at_gate (frames_f ++ frames_g ++ frames_h) frames_i)
    ∷ case J (each of_meter (outcomes_of (worked false) frames_j))
    ∷ case K (each of_meter (outcomes_of (meterAfterOf (worked false) frames_j) (frame 8 1 ∷ [])))
    ∷ case L (of_class (traffic_class_of 0 8) ∷ [])
    ∷ []

-- every starred figure of document 01
pub starred : computed
    ≡ case A (eligible 0 ∷ eligible 0 ∷ eligible 4000 ∷ eligible 8000 ∷ [])
    ∷ case B (drop 8 ∷ [])
    ∷ case C (eligible 12_000 ∷ [])
    ∷ case D (eligible 0 ∷ eligible 0 ∷ eligible 1334 ∷ eligible 2667 ∷ eligible 4000 ∷ [])
    ∷ case E (eligible 4000 ∷ [])
    ∷ case F (unlimited ∷ [])
    ∷ case G (left 0 ∷ [])
    ∷ case H (drop 5 ∷ left 0 ∷ [])
    ∷ case I (drop 4 ∷ [])
    ∷ case J (green ∷ yellow ∷ green ∷ red ∷ [])
    ∷ case K (green ∷ [])
    ∷ case L (class 1 ∷ [])
    ∷ []
unfolding computed each outcomes_after last_of scheduler_step_of schedulerInRangeOf entries_from cycle_of found_of in_force_of spent_of limited_of passed_of gate_step_of gateAfterOf figures_of outcomes_of meterAfterOf colour_of meterInRangeOf painted_of filled_of traffic_class_of class_rows
starred = refl
