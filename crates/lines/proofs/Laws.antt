-- What the table of lines and the table of records (`kind_row`) say of each other: a line has the fields of its kind, all of them and in their order.
use Rattle.std.specs.Prelude.{ℕ, ◌+◌, Bool, List, [], ◌∷◌, ◌≡◌, refl, length}
use Rattle.std.proofs.Common.{sym, ap, ◌∙◌}
use Rattle.record.specs.declared.Record.{Record}
use Rattle.record.specs.declared.Record.TheVariants.{Port, Filter, Gate, GateEntry, Meter, Group, Scheduler, Start, Arrival, Clear}
use Rattle.record.specs.declared.Kind.{Kind}
use Rattle.record.specs.declared.Kind.TheVariants.{Port as port, Filter as filter, Gate as gate, GateEntry as gate_entry, Meter as meter, Group as group, Scheduler as scheduler, Start as start, Arrival as arrival, Clear as clear}
use Rattle.record.specs.Meaning.{fields_of, values_at, record_of}
use Rattle.record.proofs.Laws.{Says}
use Rattle.lines.specs.Meaning.{Column, number, number_or, next_or, line_row, kind_in, values_of, line_with, line_of}

-- the record that a record's own values make is that record
pub values_make : (r : Record) → record_of (kind_in r) (values_of r) ≡ r
values_make (Port r) = refl
values_make (Filter r) = refl
values_make (Gate r) = refl
values_make (GateEntry r) = refl
values_make (Meter r) = refl
values_make (Group r) = refl
values_make (Scheduler r) = refl
values_make (Start r) = refl
values_make (Arrival r) = refl
values_make (Clear r) = refl

-- the fields of a record that columns take
abbrev takes_of : List Column → ℕ
takes_of [] = 0
takes_of (number name ∷ cs) = 1 + takes_of cs
takes_of (number_or name n word ∷ cs) = 1 + takes_of cs
takes_of (next_or name word ∷ cs) = 2 + takes_of cs

-- a line has all fields of its kind, and no more
pub line_has_all : (k : Kind) → takes_of (line_row k).columns ≡ length (fields_of k)
line_has_all port = refl
line_has_all filter = refl
line_has_all gate = refl
line_has_all gate_entry = refl
line_has_all meter = refl
line_has_all group = refl
line_has_all scheduler = refl
line_has_all start = refl
line_has_all arrival = refl
line_has_all clear = refl

-- the line of what is read is that of its kind, with the values that are read
read_line : (s : List ℕ) (at : ℕ) (k : Kind) → line_of (record_of k (values_at s at (fields_of k))) ≡ line_with (line_row k) (values_at s at (fields_of k))
unfolding line_of
read_line s at port = refl
read_line s at filter = refl
read_line s at gate = refl
read_line s at gate_entry = refl
read_line s at meter = refl
read_line s at group = refl
read_line s at scheduler = refl
read_line s at start = refl
read_line s at arrival = refl
read_line s at clear = refl

pub line_of_read : (s : List ℕ) (started : Bool) (r : Record) (used : ℕ) (y : Says s started r used) → line_of r ≡ line_with (line_row y.kind) (values_at s 1 (fields_of y.kind))
line_of_read s started r used y = ap line_of (sym y.is) ∙ read_line s 1 y.kind
