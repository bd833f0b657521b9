-- A buffer that is filled from its front: its octets, and the place of the next one. Where there is no place, an octet is left out.
use Rattle.std.specs.Prelude.{ℕ, ◌+◌, zero, suc, ◌/◌, ◌%◌, cond, Bool, List, [], ◌∷◌, ◌++◌, ltb, eqb, length, set}
use Prim.Native.Char.{code}
use Prim.Native.String.{String, [] as empty, ◌∷◌ as ◌then◌}
use mir.Val.{bool_byte}
use Rattle.sizes.specs.Meaning.{filter_count, gate_count, meter_count, port_count}
use Rattle.bank.specs.Meaning.{Rows}
use Rattle.bank.specs.declared.Counters.{Counters}
use Rattle.bank.specs.declared.Port.{Port}
use Rattle.gate.specs.declared.Gate.{Gate}
use Rattle.meter.specs.declared.Meter.{Meter}
use Rattle.verdict.specs.declared.Pass.{Pass}
use Rattle.verdict.specs.declared.Drop.{Drop}
use Rattle.verdict.specs.Meaning.{drop_number_of}
use Rattle.bank.specs.Meaning as view

-- the room that is kept for a line: none is longer (`Room`)
abbrev pub line_room : ℕ
line_room = 64

pub record Page : Type 0 where
  pub octets : List ℕ
  pub filled : ℕ

abbrev pub page : List ℕ → ℕ → Page
page octets filled = record { octets = octets; filled = filled }

unfoldable pub put_of : Page → ℕ → Page
put_of p v = cond (ltb p.filled (length p.octets)) (page (set p.octets p.filled v) (p.filled + 1)) p

unfoldable pub written : Page → List ℕ → Page
written p [] = p
written p (v ∷ vs) = written (put_of p v) vs

-- ---- numbers, in decimal

-- of at most so many digits
unfoldable pub digits_in : ℕ → ℕ → List ℕ
digits_in zero n = []
digits_in (suc k) n = cond (ltb n 10) ((n % 10 + 48) ∷ []) (digits_in k (n / 10) ++ ((n % 10 + 48) ∷ []))

-- a number has fewer digits than it counts, but for the last one
abbrev pub digits_of : ℕ → List ℕ
digits_of n = digits_in (n + 1) n

-- the last two digits
abbrev pub pair_of : ℕ → List ℕ
pair_of n = (n / 10 % 10 + 48) ∷ (n % 10 + 48) ∷ []

-- ---- words

-- the octets of a text
abbrev pub ascii : String → List ℕ
ascii empty = []
ascii (c then s) = code c ∷ ascii s

-- ---- the line of an arrival: its number, the verdict, then internal priority, class, drop mark, eligibility time (- for none), or the drop number

abbrev pub time_of : Bool → ℕ → List ℕ
time_of timed time = cond timed (digits_of time) (ascii "-")

unfoldable pub pass_line_of : ℕ → Pass → List ℕ
pass_line_of arrival p =
    digits_of arrival ++ ascii " pass " ++ digits_of p.priority ++ ascii " " ++ digits_of p.class ++ ascii " " ++ digits_of p.drop_mark ++ ascii " " ++ time_of p.timed p.eligible ++ ascii "\n"

unfoldable pub drop_line_of : ℕ → Drop → List ℕ
drop_line_of arrival d = digits_of arrival ++ ascii " drop " ++ digits_of (drop_number_of d) ++ ascii "\n"

-- ---- the last line: the records taken, or the refusal and the octets taken before that record

unfoldable pub end_line_of : ℕ → List ℕ
end_line_of records = ascii "end " ++ digits_of records ++ ascii "\n"

unfoldable pub refused_line_of : ℕ → ℕ → List ℕ
refused_line_of number offset = ascii "refused " ++ digits_of number ++ ascii " at " ++ digits_of offset ++ ascii "\n"

-- ---- the report: what is not 0, one a line

unfoldable pub item_of : List ℕ → ℕ → List ℕ → ℕ → List ℕ
item_of table n name value = cond (eqb value 0) [] (table ++ digits_of n ++ name ++ digits_of value ++ ascii "\n")

abbrev reported : String → ℕ → String → ℕ → List ℕ
reported table n name value = item_of (ascii table) n (ascii name) value

unfoldable pub filter_items_of : ℕ → Counters → List ℕ
filter_items_of n c =
    reported "filter " n " MatchingFrames " c.matching ++ reported "filter " n " PassingSDU " c.passing_sdu ++ reported "filter " n " NotPassingSDU " c.not_passing_sdu ++ reported "filter " n " PassingFrames " c.passing
    ++ reported "filter " n " NotPassingFrames " c.not_passing ++ reported "filter " n " REDFrames " c.red ++ reported "filter " n " oversize " (bool_byte c.oversize)

unfoldable pub gate_items_of : ℕ → Gate → List ℕ
gate_items_of n g = reported "gate " n " invalid-receive " (bool_byte g.invalid_receive_flag) ++ reported "gate " n " octets " (bool_byte g.octets_flag)

abbrev pub meter_item_of : ℕ → Meter → List ℕ
meter_item_of n m = reported "meter " n " red " (bool_byte m.red_flag)

abbrev pub port_item_of : ℕ → Port → List ℕ
port_item_of n p = reported "port " n " DiscardedFrames " p.discarded

-- those of the numbers below n, in ascending order
unfoldable pub up_to : (ℕ → List ℕ) → ℕ → List ℕ
up_to f zero = []
up_to f (suc n) = up_to f n ++ f n

abbrev pub filters_of : Rows → List ℕ
filters_of s = up_to (λ i. filter_items_of i (view.counters s i)) filter_count

abbrev pub gates_of : Rows → List ℕ
gates_of s = up_to (λ i. gate_items_of i (view.gate s i)) gate_count

abbrev pub meters_of : Rows → List ℕ
meters_of s = up_to (λ i. meter_item_of i (view.meter s i)) meter_count

abbrev pub ports_of : Rows → List ℕ
ports_of s = up_to (λ i. port_item_of i (view.port s i)) port_count

unfoldable pub report_of : Rows → List ℕ
report_of s = filters_of s ++ gates_of s ++ meters_of s ++ ports_of s
