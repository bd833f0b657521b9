-- The room of a record's line: no line of a record that is read is longer than `record_room`.
use Rattle.std.specs.Prelude.{ℕ, zero, suc, ◌+◌, ◌*◌, ◌<◌, ◌≤◌, Bool, cond, Ok, List, [], ◌∷◌, ◌++◌, ◌≡◌, refl, eqb, ltb, length, take, drop}
use Rattle.std.proofs.Common.{ap, arith, ltb-true, ltb-false, length-append, length-take, get_or-take, get_or-drop}
use Rattle.std.proofs.Math.ListN.{get_or-eq_default}
use Rattle.logic.specs.Laws.{by_test, if_by}
use Rattle.record.specs.declared.Record.{Record}
use Rattle.record.specs.declared.Kind.{Kind}
use Rattle.record.specs.declared.Kind.TheVariants.{Port as port, Filter as filter, Gate as gate, GateEntry as gate_entry, Meter as meter, Group as group, Scheduler as scheduler, Start as start, Arrival as arrival, Clear as clear}
use Rattle.record.specs.Meaning.{Field, fields_of, number_at, values_at, read_of}
use Rattle.record.proofs.Laws.{Octets, read_says}
use Rattle.text.specs.Meaning.{page, written, ascii, digits_of}
use Rattle.text.proofs.Room.{whole_line, written_whole, tens, digits_most}
use Rattle.lines.specs.Meaning.{Column, number, number_or, next_or, line_row, label_of, columns_of, line_with, line_of}
use Rattle.lines.specs.Room.{record_room}
use Rattle.lines.proofs.Laws.{line_of_read}

-- ---- a number of w octets has at most three digits for each of them and one

-- 256^w
abbrev octets_span : ℕ → ℕ
octets_span zero = 1
octets_span (suc w) = octets_span w * 256

abbrev digits_for : ℕ → ℕ
digits_for zero = 1
digits_for (suc w) = suc (suc (suc (digits_for w)))

span_tens : (w : ℕ) → octets_span w ≤ tens (digits_for w)
span_tens zero = omega arith
span_tens (suc w) = omega (arith, span_tens w)

digits_span : (w n : ℕ) → n < octets_span w → length (digits_of n) ≤ digits_for w
digits_span zero n l = digits_most zero n (omega (arith, l))
digits_span (suc w) n l = digits_most (suc (suc (digits_for w))) n (omega (arith, l, span_tens w))

-- ---- what is read from octets is no wider than its field

-- each value is one of its field's width, and there are as many
abbrev pub Fitting : List Field → List ℕ → Type 0
Fitting [] vs = length vs ≡ 0
Fitting (f ∷ fs) [] = ⊥
Fitting (f ∷ fs) (v ∷ vs) = (v < octets_span f.width) × Fitting fs vs

module _ (s : List ℕ) (octets : Octets s) where
  number_fits : (at w : ℕ) → number_at s at w < octets_span w
  number_fits at zero = omega arith
  number_fits at (suc zero) = omega (arith, octets at)
  number_fits at (suc (suc w)) = omega (arith, number_fits at (suc w), octets (at + suc w))

  values_fit : (fs : List Field) (at : ℕ) → Fitting fs (values_at s at fs)
  values_fit [] at = refl
  values_fit (f ∷ fs) at = (number_fits at f.width, values_fit fs (at + f.width))

-- ---- the columns of values that fit

abbrev columns_room : List Column → List Field → ℕ
columns_room [] fs = 1
columns_room (number name ∷ cs) [] = 1
columns_room (number name ∷ cs) (f ∷ fs) = length (label_of name) + digits_for f.width + columns_room cs fs
columns_room (number_or name n word ∷ cs) [] = 1
columns_room (number_or name n word ∷ cs) (f ∷ fs) = length (label_of name) + (length (ascii word) + digits_for f.width) + columns_room cs fs
columns_room (next_or name word ∷ cs) [] = 1
columns_room (next_or name word ∷ cs) (f ∷ []) = 1
columns_room (next_or name word ∷ cs) (f ∷ g ∷ fs) = length (label_of name) + (length (ascii word) + digits_for g.width) + columns_room cs fs

-- a label, what is written for a value, and the columns after it
parts : (xs ys zs : List ℕ) (m n : ℕ) → length ys ≤ m → length zs ≤ n → length (xs ++ (ys ++ zs)) ≤ length xs + m + n
parts xs ys zs m n h l = omega (arith, length-append xs (ys ++ zs), length-append ys zs, h, l)

either_room : (t : Bool) (xs ys : List ℕ) (n : ℕ) → length ys ≤ n → length (cond t xs ys) ≤ length xs + n
either_room t xs ys n h = if_by (λ (zs : List ℕ). length zs ≤ length xs + n) t xs ys (λ e. omega arith) (λ e. omega (arith, h))

columns_room_lem : (cs : List Column) (fs : List Field) (vs : List ℕ) → Fitting fs vs → length (columns_of cs vs) ≤ columns_room cs fs
columns_room_lem [] fs vs h = omega arith
columns_room_lem (number name ∷ cs) [] [] h = omega arith
columns_room_lem (number name ∷ cs) [] (v ∷ vs) h = absurd (omega (arith, h))
columns_room_lem (number name ∷ cs) (f ∷ fs) [] h = absurd h
columns_room_lem (number name ∷ cs) (f ∷ fs) (v ∷ vs) h =
    parts (label_of name) (digits_of v) (columns_of cs vs) _ _ (digits_span f.width v h.0) (columns_room_lem cs fs vs h.1)
columns_room_lem (number_or name n word ∷ cs) [] [] h = omega arith
columns_room_lem (number_or name n word ∷ cs) [] (v ∷ vs) h = absurd (omega (arith, h))
columns_room_lem (number_or name n word ∷ cs) (f ∷ fs) [] h = absurd h
columns_room_lem (number_or name n word ∷ cs) (f ∷ fs) (v ∷ vs) h =
    parts (label_of name) (cond (eqb v n) (ascii word) (digits_of v)) (columns_of cs vs) _ _ (either_room (eqb v n) (ascii word) (digits_of v) _ (digits_span f.width v h.0)) (columns_room_lem cs fs vs h.1)
columns_room_lem (next_or name word ∷ cs) [] [] h = omega arith
columns_room_lem (next_or name word ∷ cs) [] (v ∷ vs) h = absurd (omega (arith, h))
columns_room_lem (next_or name word ∷ cs) (f ∷ fs) [] h = absurd h
columns_room_lem (next_or name word ∷ cs) (f ∷ []) (v ∷ []) h = omega arith
columns_room_lem (next_or name word ∷ cs) (f ∷ []) (v ∷ w ∷ vs) h = absurd (omega (arith, h.1))
columns_room_lem (next_or name word ∷ cs) (f ∷ g ∷ fs) (v ∷ []) h = absurd h.1
columns_room_lem (next_or name word ∷ cs) (f ∷ g ∷ fs) (v ∷ w ∷ vs) h =
    parts (label_of name) (cond (eqb v 1) (ascii word) (digits_of w)) (columns_of cs vs) _ _ (either_room (eqb v 1) (ascii word) (digits_of w) _ (digits_span g.width w h.1.0)) (columns_room_lem cs fs vs h.1.1)

-- ---- the lines

kind_room : (k : Kind) → length (ascii (line_row k).name) + columns_room (line_row k).columns (fields_of k) ≤ record_room
kind_room port = omega arith
kind_room filter = omega arith
kind_room gate = omega arith
kind_room gate_entry = omega arith
kind_room meter = omega arith
kind_room group = omega arith
kind_room scheduler = omega arith
kind_room start = omega arith
kind_room arrival = omega arith
kind_room clear = omega arith

line_room_lem : (k : Kind) (vs : List ℕ) → Fitting (fields_of k) vs → length (line_with (line_row k) vs) ≤ record_room
line_room_lem k vs h =
    omega (arith, length-append (ascii (line_row k).name) (columns_of (line_row k).columns vs), columns_room_lem (line_row k).columns (fields_of k) vs h, kind_room k)

-- octets from a place on are octets
pub octets_part : (s : List ℕ) (n at : ℕ) → Octets s → Octets (take n (drop at s))
octets_part s n at o i =
    by_test (ltb i n)
    (λ e. omega (arith, get_or-take n (drop at s) i 0 (ltb-true i n e), get_or-drop at s i 0, o (at + i)))
    (λ e. omega (arith, get_or-eq_default (take n (drop at s)) 0 {n = i} (omega (arith, length-take n (drop at s), ltb-false i n e))))

pub record_room_lem : (s : List ℕ) (started : Bool) (r : Record) (used : ℕ) → Octets s → read_of s started ≡ Ok (r, used) → length (line_of r) ≤ record_room
record_room_lem s started r used o e =
    let y = read_says s started r used e in
    omega (arith, ap length (line_of_read s started r used y), line_room_lem y.kind _ (values_fit s o (fields_of y.kind) 1))

-- so it is put whole wherever that room is left
pub record_whole : (octets : List ℕ) (filled : ℕ) (r : Record) → length (line_of r) ≤ record_room → filled + record_room ≤ length octets
    → written (page octets filled) (line_of r) ≡ whole_line octets filled (line_of r)
record_whole octets filled r h l = written_whole octets filled (line_of r) (omega (arith, h, l))
