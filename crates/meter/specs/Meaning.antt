-- What a flow meter answers (01, Meters; 01, A frame's path, step 4). Tokens are counted in grains: `grains` are those of some octets.
use Rattle.std.specs.Prelude.{ℕ, ◌+◌, ◌-◌, ◌*◌, ◌^◌, min, Bool, true, false, not, cond, ◌&&◌, ◌||◌, leb}
use Rattle.bucket.specs.Meaning.{grains, grown, full_of}
use Rattle.bucket.specs.declared.Rate.{Rate}
use Rattle.bucket.specs.declared.Octets.{Octets}
use Rattle.meter.specs.declared.Meter.{Meter}
use Rattle.meter.specs.declared.Metered.{Metered}
use Rattle.meter.specs.declared.Outcome.{Outcome}
use Rattle.meter.specs.declared.Outcome.TheVariants.{Green, Yellow, YellowDropped, Red, OutOfRange, TooEarly}

-- "Buckets start full"
abbrev pub fresh_meter_of : Rate → Octets → Rate → Octets → Bool → Bool → Bool → Bool → Meter
fresh_meter_of cir cbs eir ebs coupling aware dropping block = record {
  cir = cir;
  cbs = cbs;
  eir = eir;
  ebs = ebs;
  coupling = coupling;
  colour_aware = aware;
  drop_on_yellow = dropping;
  red_block = block;
  red_flag = false;
  committed = full_of cbs;
  excess = full_of ebs;
  last = 0;
}

-- the same meter with other tokens, another time of the last fill and another flag: all that a frame ever changes
abbrev pub meter_holding : Meter → ℕ → ℕ → ℕ → Bool → Meter
meter_holding m committed excess last flag = record {
  cir = m.cir;
  cbs = m.cbs;
  eir = m.eir;
  ebs = m.ebs;
  coupling = m.coupling;
  colour_aware = m.colour_aware;
  drop_on_yellow = m.drop_on_yellow;
  red_block = m.red_block;
  red_flag = flag;
  committed = committed;
  excess = excess;
  last = last;
}

-- the committed tokens `d` ns after the last fill
abbrev pub committed_of : Meter → ℕ → ℕ
committed_of m d = grown m.committed m.cir.0 (grains m.cbs.0) d

-- "Committed tokens above CBS"
abbrev pub overflow_of : Meter → ℕ → ℕ
overflow_of m d = m.committed + m.cir.0 * d - grains m.cbs.0

-- "are lost, or with coupling go to the excess bucket"
abbrev pub spilt : Bool → ℕ → ℕ
spilt true over = over
spilt false over = 0

-- "which is cut at EBS"
abbrev pub excess_of : Meter → ℕ → ℕ
excess_of m d = min (grains m.ebs.0) (m.excess + m.eir.0 * d + spilt m.coupling (overflow_of m d))

-- "At each frame that reaches it, the meter first fills"
unfoldable pub filled_of : Meter → ℕ → Meter
filled_of m time = meter_holding m (committed_of m (time - m.last)) (excess_of m (time - m.last)) time m.red_flag

-- "Yellow with drop on yellow: drop 6"
abbrev pub yellow_outcome : Bool → Outcome
yellow_outcome true = YellowDropped
yellow_outcome false = Yellow

-- "green, spent there"; "yellow, spent there"; where the flag stands, "red, nothing spent"; else "red, nothing spent", "setting the red flag if enabled"
abbrev pub painted_green : Meter → ℕ → Metered
painted_green m need = record { meter = meter_holding m (m.committed - need) m.excess m.last m.red_flag; outcome = Green }

abbrev pub painted_yellow : Meter → ℕ → Metered
painted_yellow m need = record { meter = meter_holding m m.committed (m.excess - need) m.last m.red_flag; outcome = yellow_outcome m.drop_on_yellow }

abbrev pub painted_stopped : Meter → Metered
painted_stopped m = record { meter = m; outcome = Red }

abbrev pub painted_red : Meter → Metered
painted_red m = record { meter = meter_holding m m.committed m.excess m.last (m.red_flag || m.red_block); outcome = Red }

-- "If the red flag stands: red. If the frame isn't drop eligible or the meter isn't colour-aware, and MSDU is at most the committed tokens: green.
-- Else if at most the excess tokens: yellow. Else red"
unfoldable pub painted_of : Meter → ℕ → Bool → Metered
painted_of m need eligible =
    cond m.red_flag (painted_stopped m)
    (cond ((not eligible || not m.colour_aware) && leb need m.committed) (painted_green m need)
    (cond (leb need m.excess) (painted_yellow m need) (painted_red m)))

-- every number in its range (01, Records), and no bucket above its burst
unfoldable pub meter_in_range : Meter → ℕ → Octets → Bool
meter_in_range m time msdu =
    leb m.cbs.0 1_000_000 && leb m.ebs.0 1_000_000
    && (leb m.committed (grains m.cbs.0) && leb m.excess (grains m.ebs.0) && leb m.cir.0 10_000_000_000 && leb m.eir.0 10_000_000_000
    && leb m.last (2 ^ 62)
    && leb time (2 ^ 62)
    && leb msdu.0 2000)

abbrev pub meter_refused : Meter → Outcome → Metered
meter_refused m outcome = record { meter = m; outcome = outcome }

-- "gives 3 and changes nothing; a meter given a time before its last fill gives 9 likewise"
unfoldable pub colour_of : Meter → ℕ → Octets → Bool → Metered
colour_of m time msdu eligible =
    cond (meter_in_range m time msdu)
    (cond (leb m.last time) (painted_of (filled_of m time) (grains msdu.0) eligible) (meter_refused m TooEarly))
    (meter_refused m OutOfRange)

-- document 01's number for an outcome: drop 6 and 7, refusal 3 and 9; 0 where the frame goes on
abbrev pub meter_number_of : Outcome → ℕ
meter_number_of Green = 0
meter_number_of Yellow = 0
meter_number_of YellowDropped = 6
meter_number_of Red = 7
meter_number_of OutOfRange = 3
meter_number_of TooEarly = 9

-- whether the frame is drop eligible afterwards: "Yellow otherwise makes the frame drop eligible"
abbrev pub marked_of : Bool → Outcome → Bool
marked_of eligible Green = eligible
marked_of eligible Yellow = true
marked_of eligible YellowDropped = eligible
marked_of eligible Red = eligible
marked_of eligible OutOfRange = eligible
marked_of eligible TooEarly = eligible
