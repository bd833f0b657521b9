-- The text form of records, one a line (docs/TEXT.md): the one table of the kinds' names, of their fields' names and of how a value is written.
use Rattle.std.specs.Prelude.{ℕ, cond, List, [], ◌∷◌, ◌++◌, eqb}
use Prim.Native.String.{String}
use Rattle.record.specs.declared.Kind.{Kind}
use Rattle.record.specs.declared.Kind.TheVariants.{Port as port, Filter as filter, Gate as gate, GateEntry as gate_entry, Meter as meter, Group as group, Scheduler as scheduler, Start as start, Arrival as arrival, Clear as clear}
use Rattle.record.specs.declared.Record.{Record}
use Rattle.record.specs.declared.Record.TheVariants.{Port, Filter, Gate, GateEntry, Meter, Group, Scheduler, Start, Arrival, Clear}
use Rattle.text.specs.Meaning.{ascii, digits_of}

-- ---- the table

-- how the value of a field is written: `name=`, and then
pub data Column : Type 0 where
  -- the value in decimal
  number : String → Column
  -- a word for one value, every other in decimal
  number_or : String → ℕ → String → Column
  -- a word where the value is 1, and where it is not the value after it in decimal: any-handle and handle in one column
  next_or : String → String → Column

-- a row of the table: the kind's name, and its columns
pub record Line : Type 0 where
  pub name : String
  pub columns : List Column

abbrev line : String → List Column → Line
line name columns = record { name = name; columns = columns }

-- the columns in the order of the fields in `kind_row`. Priority and IPV 8, meter and scheduler 255, max SDU 0 and octet maximum 2^32 - 1 have words
abbrev pub line_row : Kind → Line
line_row port = line "port" (number "port" ∷ number "overhead" ∷ [])
line_row filter =
    line "filter"
    (number "id" ∷ next_or "handle" "any" ∷ number_or "priority" 8 "any" ∷ number "gate" ∷ number_or "max-sdu" 0 "none" ∷ number "oversize-block" ∷ number_or "meter" 255 "none" ∷ number_or "scheduler" 255 "none" ∷ [])
line_row gate =
    line "gate" (number "id" ∷ number "state" ∷ number_or "ipv" 8 "null" ∷ number "invalid-receive-block" ∷ number "octets-block" ∷ number "base-time" ∷ [])
line_row gate_entry =
    line "gate-entry" (number "gate" ∷ number "state" ∷ number_or "ipv" 8 "null" ∷ number "interval" ∷ number_or "octet-maximum" 4_294_967_295 "none" ∷ [])
line_row meter =
    line "meter"
    (number "id" ∷ number "cir" ∷ number "cbs" ∷ number "eir" ∷ number "ebs" ∷ number "coupling" ∷ number "colour-aware" ∷ number "drop-on-yellow" ∷ number "red-block" ∷ [])
line_row group = line "group" (number "id" ∷ number "residence" ∷ [])
line_row scheduler = line "scheduler" (number "id" ∷ number "group" ∷ number "cir" ∷ number "cbs" ∷ [])
line_row start = line "start" (number "classes" ∷ [])
line_row arrival = line "arrival" (number "port" ∷ number "time" ∷ number "handle" ∷ number "priority" ∷ number "drop-eligible" ∷ number "msdu" ∷ [])
line_row clear = line "clear" (number "flag" ∷ number "id" ∷ [])

-- ---- a record's kind, and the values of its fields in the order of `kind_row`

abbrev pub kind_in : Record → Kind
kind_in (Port r) = port
kind_in (Filter r) = filter
kind_in (Gate r) = gate
kind_in (GateEntry r) = gate_entry
kind_in (Meter r) = meter
kind_in (Group r) = group
kind_in (Scheduler r) = scheduler
kind_in (Start r) = start
kind_in (Arrival r) = arrival
kind_in (Clear r) = clear

abbrev pub values_of : Record → List ℕ
values_of (Port r) = r.port ∷ r.overhead ∷ []
values_of (Filter r) =
    r.id ∷ r.any_handle ∷ r.handle ∷ r.priority ∷ r.gate ∷ r.max_sdu ∷ r.oversize_block ∷ r.meter ∷ r.scheduler ∷ []
values_of (Gate r) = r.id ∷ r.state ∷ r.ipv ∷ r.invalid_receive_block ∷ r.octets_block ∷ r.base_time ∷ []
values_of (GateEntry r) = r.gate ∷ r.state ∷ r.ipv ∷ r.interval ∷ r.octet_maximum ∷ []
values_of (Meter r) =
    r.id ∷ r.cir.0 ∷ r.cbs.0 ∷ r.eir.0 ∷ r.ebs.0 ∷ r.coupling ∷ r.colour_aware ∷ r.drop_on_yellow ∷ r.red_block ∷ []
values_of (Group r) = r.id ∷ r.residence ∷ []
values_of (Scheduler r) = r.id ∷ r.group ∷ r.cir.0 ∷ r.cbs.0 ∷ []
values_of (Start r) = r.classes ∷ []
values_of (Arrival r) = r.port ∷ r.time ∷ r.handle ∷ r.priority ∷ r.drop_eligible ∷ r.msdu ∷ []
values_of (Clear r) = r.flag ∷ r.id ∷ []

-- ---- the line

-- " name="
abbrev pub label_of : String → List ℕ
label_of name = ascii " " ++ ascii name ++ ascii "="

-- the columns with these values
abbrev pub columns_of : List Column → List ℕ → List ℕ
columns_of [] vs = ascii "\n"
columns_of (number name ∷ cs) [] = ascii "\n"
columns_of (number name ∷ cs) (v ∷ vs) = label_of name ++ (digits_of v ++ columns_of cs vs)
columns_of (number_or name n word ∷ cs) [] = ascii "\n"
columns_of (number_or name n word ∷ cs) (v ∷ vs) = label_of name ++ (cond (eqb v n) (ascii word) (digits_of v) ++ columns_of cs vs)
columns_of (next_or name word ∷ cs) [] = ascii "\n"
columns_of (next_or name word ∷ cs) (v ∷ []) = ascii "\n"
columns_of (next_or name word ∷ cs) (v ∷ next ∷ vs) = label_of name ++ (cond (eqb v 1) (ascii word) (digits_of next) ++ columns_of cs vs)

abbrev pub line_with : Line → List ℕ → List ℕ
line_with l vs = ascii l.name ++ columns_of l.columns vs

unfoldable pub line_of : Record → List ℕ
line_of r = line_with (line_row (kind_in r)) (values_of r)
