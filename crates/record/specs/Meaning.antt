-- The ten kinds of record, as the table of document 01 (Records) has them: the one definition of each kind's octet, turn, fields, widths and
-- ranges. A body's length, its decoding, its encoding, the test of its turn and that of its ranges all follow from it.
use Rattle.std.specs.Prelude.{ℕ, zero, suc, ◌+◌, ◌*◌, ◌/◌, ◌%◌, ◌-◌, Bool, true, ◌&&◌, ◌||◌, not, false, cond, List, [], ◌∷◌, ◌++◌, leb, eqb, get_or, length, take, drop, Some, None, Result, Ok, Err}
use Rattle.std.proofs.Math.Option.{Option, none, some}
use Rattle.sizes.specs.Meaning.{last_filter, last_port, last_gate, last_meter, last_group, last_scheduler}
use Rattle.record.specs.declared.Flag.{Flag}
use Rattle.record.specs.declared.Flag.TheVariants.{Oversize, InvalidReceive, Octets, Red}
use Rattle.record.specs.declared.ClearRecord.{ClearRecord}
use Rattle.record.specs.declared.ArrivalRecord.{ArrivalRecord}
use Rattle.record.specs.declared.StartRecord.{StartRecord}
use Rattle.record.specs.declared.GateEntryRecord.{GateEntryRecord}
use Rattle.record.specs.declared.Record.{Record}
use Rattle.record.specs.declared.Record.TheVariants.{Port, Filter, Gate, GateEntry, Meter, Group, Scheduler, Start, Arrival, Clear}
use Rattle.record.specs.declared.Refusal.{Refusal}
use Rattle.record.specs.declared.Refusal.TheVariants.{CutShort, UnknownKind, OutOfRange, OutOfTurn, SetUpAlready, NinthEntry, Missing, BurstTooSmall, TimeGoesBack, NotSetUp, TableLength}
use Rattle.std.specs.Borrow.{Bor}
-- the kinds, by names that no record has
pub use Rattle.record.specs.declared.Kind.{Kind}
pub use Rattle.record.specs.declared.Kind.TheVariants.{Port as port, Filter as filter, Gate as gate, GateEntry as gate_entry, Meter as meter, Group as group, Scheduler as scheduler, Start as start, Arrival as arrival, Clear as clear}

-- the kinds by number, from 0 on
abbrev pub kinds : List (Option Kind)
kinds = none ∷ some port ∷ some filter ∷ some gate ∷ some gate_entry ∷ some meter ∷ some group ∷ some scheduler ∷ some start ∷ some arrival ∷ some clear ∷ []

-- the kind that an octet says; 0 and all above 10 say none
abbrev pub kind_of : ℕ → Option Kind
kind_of n = get_or kinds n none

-- the kind that is said, or that it is none
abbrev pub known_as : Option Kind → Result Kind Refusal
known_as none = Err UnknownKind
known_as (some k) = Ok k

abbrev pub kind_named : ℕ → Result Kind Refusal
kind_named n = known_as (kind_of n)

-- ---- fields

pub data Range : Type 0 where
  -- every number of the field's width
  any : Range
  -- 0..n
  upto : ℕ → Range
  -- m..n
  between : ℕ → ℕ → Range
  -- 0..n, or the last number of one octet, 255, for none
  upto_or_255 : ℕ → Range

pub record Field : Type 0 where
  pub width : ℕ
  pub range : Range

abbrev pub w1 : Range → Field
w1 r = record { width = 1; range = r }

abbrev pub w2 : Range → Field
w2 r = record { width = 2; range = r }

abbrev pub w4 : Range → Field
w4 r = record { width = 4; range = r }

abbrev pub w8 : Range → Field
w8 r = record { width = 8; range = r }

-- `so`, and v is within the range. The tests are joined from the first field on, as a reader meets them
abbrev pub within : Bool → Range → ℕ → Bool
within so any v = so
within so (upto n) v = so && leb v n
within so (between m n) v = so && leb m v && leb v n
within so (upto_or_255 n) v = so && (leb v n || eqb v 255)

-- a time in nanoseconds, at most 2^62
abbrev pub time : Range
time = upto 4_611_686_018_427_387_904

-- an interval or a residence in nanoseconds, 1..10^9
abbrev pub span : Range
span = between 1 1_000_000_000

-- 0/1
abbrev pub flag : Range
flag = upto 1

-- ---- the table

-- when a kind comes: before a start is taken, or after it
pub data Turn : Type 0 where
  before : Turn
  after : Turn

-- a row of the table: the octet that says the kind, its turn, its fields in order, and what it asks of their values together
pub record Row : Type 0 where
  pub octet : ℕ
  pub turn : Turn
  pub fields : List Field
  pub agree : List ℕ → Bool

abbrev row : ℕ → Turn → List Field → (List ℕ → Bool) → Row
row n t fs a = record { octet = n; turn = t; fields = fs; agree = a }

-- nothing is asked of them together
abbrev free : List ℕ → Bool
free vs = true

-- a filter for any handle has handle 0
abbrev handle_fits : List ℕ → Bool
handle_fits vs = not (eqb (get_or vs 1 0) 1) || eqb (get_or vs 2 0) 0

-- the id of a clear is a filter's for flag 1, and for the others a gate's or a meter's, of which there are as many
abbrev id_fits : List ℕ → Bool
id_fits vs = leb (get_or vs 1 0) last_gate || eqb (get_or vs 0 0) 1 && leb (get_or vs 1 0) last_filter

-- rates are in bits per second, bursts and lengths in octets
abbrev pub kind_row : Kind → Row
-- port, overhead
kind_row port = row 1 before (w1 (upto last_port) ∷ w1 (upto 64) ∷ []) free
-- id, any-handle, handle, priority, gate, max SDU, oversize block, meter, scheduler
kind_row filter =
    row 2 before
    (w1 (upto last_filter) ∷ w1 flag ∷ w4 any ∷ w1 (upto 8) ∷ w1 (upto last_gate) ∷ w2 (upto 2000) ∷ w1 flag ∷ w1 (upto_or_255 last_meter) ∷ w1 (upto_or_255 last_scheduler) ∷ [])
    handle_fits
-- id, state, IPV, invalid-receive block, octets block, base time
kind_row gate = row 3 before (w1 (upto last_gate) ∷ w1 flag ∷ w1 (upto 8) ∷ w1 flag ∷ w1 flag ∷ w8 time ∷ []) free
-- gate, state, IPV, interval, octet maximum
kind_row gate_entry = row 4 before (w1 (upto last_gate) ∷ w1 flag ∷ w1 (upto 8) ∷ w4 span ∷ w4 any ∷ []) free
-- id, CIR, CBS, EIR, EBS, coupling, colour-aware, drop on yellow, red block
kind_row meter =
    row 5 before
    (w1 (upto last_meter) ∷ w8 (upto 10_000_000_000) ∷ w4 (upto 1_000_000) ∷ w8 (upto 10_000_000_000) ∷ w4 (upto 1_000_000) ∷ w1 flag ∷ w1 flag ∷ w1 flag ∷ w1 flag ∷ [])
    free
-- id, residence
kind_row group = row 6 before (w1 (upto last_group) ∷ w4 span ∷ []) free
-- id, group, CIR, CBS
kind_row scheduler = row 7 before (w1 (upto last_scheduler) ∷ w1 (upto last_group) ∷ w8 (between 1 10_000_000_000) ∷ w4 (between 1 1_000_000) ∷ []) free
-- traffic classes
kind_row start = row 8 before (w1 (between 1 8) ∷ []) free
-- port, time, handle, priority, drop eligible, MSDU octets
kind_row arrival = row 9 after (w1 (upto last_port) ∷ w8 time ∷ w4 any ∷ w1 (upto 7) ∷ w1 flag ∷ w2 (upto 2000) ∷ []) free
-- flag, id
kind_row clear = row 10 after (w1 (between 1 4) ∷ w1 any ∷ []) id_fits

abbrev pub octet_of : Kind → ℕ
octet_of k = (kind_row k).octet

abbrev pub turn_of : Kind → Turn
turn_of k = (kind_row k).turn

abbrev pub fields_of : Kind → List Field
fields_of k = (kind_row k).fields

-- the octets of a body
abbrev pub widths_of : List Field → ℕ
widths_of [] = 0
widths_of (f ∷ fs) = f.width + widths_of fs

-- each value is within the range of its field; `so` is what is known of those before
abbrev pub all_within : Bool → List Field → List ℕ → Bool
all_within so [] vs = so
all_within so (f ∷ fs) [] = so
all_within so (f ∷ fs) (v ∷ vs) = all_within (within so f.range v) fs vs

abbrev pub fields_in_range : Kind → List ℕ → Bool
fields_in_range k vs = all_within ((kind_row k).agree vs) (fields_of k) vs

-- ---- octets and values

-- w octets from `at` on, the first the most significant
abbrev pub number_at : List ℕ → ℕ → ℕ → ℕ
number_at s at zero = 0
number_at s at (suc zero) = get_or s at 0
number_at s at (suc (suc w)) = number_at s at (suc w) * 256 + get_or s (at + suc w) 0

-- the values of fields that begin at `at`
abbrev pub values_at : List ℕ → ℕ → List Field → List ℕ
values_at s at [] = []
values_at s at (f ∷ fs) = number_at s at f.width ∷ values_at s (at + f.width) fs

-- a number as w octets
abbrev pub big_endian_of : ℕ → ℕ → List ℕ
big_endian_of zero v = []
big_endian_of (suc w) v = big_endian_of w (v / 256) ++ (v % 256 ∷ [])

-- the values of fields as octets
abbrev pub encoded_of : List Field → List ℕ → List ℕ
encoded_of [] vs = []
encoded_of (f ∷ fs) [] = []
encoded_of (f ∷ fs) (v ∷ vs) = big_endian_of f.width v ++ encoded_of fs vs

-- document 01's number of each refusal
abbrev pub refusal_number_of : Refusal → ℕ
refusal_number_of CutShort = 1
refusal_number_of UnknownKind = 2
refusal_number_of OutOfRange = 3
refusal_number_of OutOfTurn = 4
refusal_number_of SetUpAlready = 5
refusal_number_of NinthEntry = 6
refusal_number_of Missing = 7
refusal_number_of BurstTooSmall = 8
refusal_number_of TimeGoesBack = 9
refusal_number_of NotSetUp = 10
refusal_number_of TableLength = 11

-- document 01's number of each flag of a clear
abbrev pub flag_number_of : Flag → ℕ
flag_number_of Oversize = 1
flag_number_of InvalidReceive = 2
flag_number_of Octets = 3
flag_number_of Red = 4

-- the flag of a number that is one
abbrev pub flag_in : ℕ → Flag
flag_in n = cond (eqb n 1) Oversize (cond (eqb n 2) InvalidReceive (cond (eqb n 3) Octets Red))

-- the flag that a number says, or that it is out of range
abbrev pub flag_said : ℕ → Result Flag Refusal
flag_said n = cond (leb 1 n && leb n 4) (Ok (flag_in n)) (Err OutOfRange)

-- the record that the values of a kind's fields make
abbrev pub record_of : Kind → List ℕ → Record
record_of port vs = Port (record { port = get_or vs 0 0; overhead = get_or vs 1 0 })
record_of filter vs =
    Filter
    (record {
      id = get_or vs 0 0;
      any_handle = get_or vs 1 0;
      handle = get_or vs 2 0;
      priority = get_or vs 3 0;
      gate = get_or vs 4 0;
      max_sdu = get_or vs 5 0;
      oversize_block = get_or vs 6 0;
      meter = get_or vs 7 0;
      scheduler = get_or vs 8 0;
    })
record_of gate vs =
    Gate
    (record {
      id = get_or vs 0 0;
      state = get_or vs 1 0;
      ipv = get_or vs 2 0;
      invalid_receive_block = get_or vs 3 0;
      octets_block = get_or vs 4 0;
      base_time = get_or vs 5 0;
    })
record_of gate_entry vs =
    GateEntry (record { gate = get_or vs 0 0; state = get_or vs 1 0; ipv = get_or vs 2 0; interval = get_or vs 3 0; octet_maximum = get_or vs 4 0 })
record_of meter vs =
    Meter
    (record {
      id = get_or vs 0 0;
      cir = record { 0 = get_or vs 1 0 };
      cbs = record { 0 = get_or vs 2 0 };
      eir = record { 0 = get_or vs 3 0 };
      ebs = record { 0 = get_or vs 4 0 };
      coupling = get_or vs 5 0;
      colour_aware = get_or vs 6 0;
      drop_on_yellow = get_or vs 7 0;
      red_block = get_or vs 8 0;
    })
record_of group vs = Group (record { id = get_or vs 0 0; residence = get_or vs 1 0 })
record_of scheduler vs = Scheduler (record { id = get_or vs 0 0; group = get_or vs 1 0; cir = record { 0 = get_or vs 2 0 }; cbs = record { 0 = get_or vs 3 0 } })
record_of start vs = Start (record { classes = get_or vs 0 0 })
record_of arrival vs =
    Arrival
    (record {
      port = get_or vs 0 0;
      time = get_or vs 1 0;
      handle = get_or vs 2 0;
      priority = get_or vs 3 0;
      drop_eligible = get_or vs 4 0;
      msdu = get_or vs 5 0;
    })
record_of clear vs = Clear (record { flag = get_or vs 0 0; id = get_or vs 1 0 })

-- the octets of a record, its kind included
abbrev pub record_length : Kind → ℕ
record_length k = 1 + widths_of (fields_of k)

-- a kind of that turn comes now
abbrev pub comes : Turn → Bool → Bool
comes before started = not started
comes after started = started

abbrev pub in_turn_of : Kind → Bool → Bool
in_turn_of k started = comes (turn_of k) started

-- what reading gives: the record and how many octets it uses, its kind included; or why it is refused
abbrev pub Reading : Type 0
Reading = Result (Record × ℕ) Refusal

-- a record of this kind that is whole and in its turn; `vs` are the values of its fields
abbrev pub ranged_of : Kind → List ℕ → Reading
ranged_of k vs = cond (fields_in_range k vs) (Ok (record_of k vs, record_length k)) (Err OutOfRange)

abbrev pub whole_of : Kind → List ℕ → Reading
whole_of k s = ranged_of k (values_at s 1 (fields_of k))

unfoldable pub read_as : Option Kind → Bool → List ℕ → Reading
read_as none started s = Err UnknownKind
read_as (some k) started s = cond (leb (record_length k) (length s)) (cond (in_turn_of k started) (whole_of k s) (Err OutOfTurn)) (Err CutShort)

unfoldable pub read_of : List ℕ → Bool → Reading
read_of [] started = Err CutShort
read_of (n ∷ s) started = read_as (kind_of n) started (n ∷ s)

-- ---- the same by what the kind's octet says, for a body that is at hand

-- no octets where that is no kind
abbrev pub length_in : Option Kind → ℕ
length_in none = 0
length_in (some k) = record_length k

-- never the turn of what is no kind
abbrev pub in_turn_in : Option Kind → Bool → Bool
in_turn_in none started = false
in_turn_in (some k) started = in_turn_of k started

-- octets that are lent: the block they lie in, the place of the first, and what they are. Two views are equal only where they show the very
-- same octets, and no copy of them
pub record View : Type 0 where
  pub block : ℕ
  pub place : ℕ
  pub octets : List ℕ

abbrev pub view_of : Bor (List ℕ) → View
view_of r = record { block = r.ref_ptr.0; place = r.ref_ptr.1; octets = r.now }

-- whether a record that uses so many octets stands at the front. A refusal uses 0 octets
abbrev pub stands_in : List ℕ → ℕ → Bool
stands_in s used = leb 1 used && leb used (length s)

-- the octets of its body: all but its kind; none where no record stands
unfoldable pub body_in : List ℕ → ℕ → List ℕ
body_in s used = cond (stands_in s used) (take (used - 1) (drop 1 s)) []

-- the body as the very part of what is lent: from behind the kind on; where no record stands, the empty part at the front
unfoldable pub body_of : View → ℕ → View
body_of v used = record { block = v.block; place = v.place + cond (stands_in v.octets used) 1 0; octets = body_in v.octets used }

-- ---- records told apart by those alone that ask for one sort of them

pub data Sought : Type 0 where
  another : Sought
  an_entry : GateEntryRecord → Sought
  a_start : StartRecord → Sought
  an_arrival : ArrivalRecord → Sought
  a_clear : ClearRecord → Sought

abbrev pub sought_in : Record → Sought
sought_in (Port r) = another
sought_in (Filter r) = another
sought_in (Gate r) = another
sought_in (GateEntry r) = an_entry r
sought_in (Meter r) = another
sought_in (Group r) = another
sought_in (Scheduler r) = another
sought_in (Start r) = a_start r
sought_in (Arrival a) = an_arrival a
sought_in (Clear r) = a_clear r

-- what a gate entry gives, every other record the same; what a start, an arrival, a clear gives
abbrev pub by_entry : {A : Type 0} → (GateEntryRecord → A) → A → Sought → A
by_entry f x another = x
by_entry f x (an_entry r) = f r
by_entry f x (a_start r) = x
by_entry f x (an_arrival a) = x
by_entry f x (a_clear r) = x

abbrev pub by_start : {A : Type 0} → (StartRecord → A) → A → Sought → A
by_start f x another = x
by_start f x (an_entry r) = x
by_start f x (a_start r) = f r
by_start f x (an_arrival a) = x
by_start f x (a_clear r) = x

abbrev pub by_arrival : {A : Type 0} → (ArrivalRecord → A) → A → Sought → A
by_arrival f x another = x
by_arrival f x (an_entry r) = x
by_arrival f x (a_start r) = x
by_arrival f x (an_arrival a) = f a
by_arrival f x (a_clear r) = x

abbrev pub by_clear : {A : Type 0} → (ClearRecord → A) → A → Sought → A
by_clear f x another = x
by_clear f x (an_entry r) = x
by_clear f x (a_start r) = x
by_clear f x (an_arrival a) = x
by_clear f x (a_clear r) = f r

abbrev pub of_entry : {A : Type 0} → (GateEntryRecord → A) → A → Record → A
of_entry f x r = by_entry f x (sought_in r)

abbrev pub of_start : {A : Type 0} → (StartRecord → A) → A → Record → A
of_start f x r = by_start f x (sought_in r)

abbrev pub of_arrival : {A : Type 0} → (ArrivalRecord → A) → A → Record → A
of_arrival f x r = by_arrival f x (sought_in r)

abbrev pub of_clear : {A : Type 0} → (ClearRecord → A) → A → Record → A
of_clear f x r = by_clear f x (sought_in r)
