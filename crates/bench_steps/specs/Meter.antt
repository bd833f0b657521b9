-- A meter kept in sixteen words, and what one step leaves there.
use Rattle.std.specs.Prelude.{ℕ, ◌%◌, Bool, List, get_or, set}
use mir.Val.{bool_byte}
use Rattle.meter.specs.declared.Meter.{Meter}
use Rattle.meter.specs.declared.Metered.{Metered}
use Rattle.meter.specs.declared.Outcome.{Outcome}
use Rattle.meter.specs.declared.Outcome.TheVariants.{Green, Yellow, YellowDropped, Red, OutOfRange, TooEarly}
use Rattle.meter.specs.Meaning.{colour_of}
use Rattle.bench_steps.specs.Words.{Stepped, is_set}

abbrev pub meter_of : List ℕ → Meter
meter_of words = record {
  cir = record { 0 = get_or words 0 0 };
  cbs = record { 0 = get_or words 1 0 % 4_294_967_296 };
  eir = record { 0 = get_or words 2 0 };
  ebs = record { 0 = get_or words 3 0 % 4_294_967_296 };
  coupling = is_set words 4;
  colour_aware = is_set words 5;
  drop_on_yellow = is_set words 6;
  red_block = is_set words 7;
  red_flag = is_set words 8;
  committed = get_or words 9 0;
  excess = get_or words 10 0;
  last = get_or words 11 0;
}

-- what a step changes: the flag, the tokens and the time
abbrev pub put_of : List ℕ → Meter → List ℕ
put_of words m = set (set (set (set words 8 (bool_byte m.red_flag)) 9 m.committed) 10 m.excess) 11 m.last

-- 0 green, 1 yellow, or document 01's number
abbrev pub told_of : Outcome → ℕ
told_of Green = 0
told_of Yellow = 1
told_of YellowDropped = 6
told_of Red = 7
told_of OutOfRange = 3
told_of TooEarly = 9

abbrev pub told_by : List ℕ → Metered → Stepped
told_by words r = record { words = put_of words r.meter; answer = told_of r.outcome }

unfoldable pub coloured_of : List ℕ → ℕ → ℕ → Bool → Stepped
coloured_of words time msdu eligible = told_by words (colour_of (meter_of words) time (record { 0 = msdu }) eligible)
