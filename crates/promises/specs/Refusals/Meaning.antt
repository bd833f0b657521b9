-- The table of refusal numbers of document 01 as it stands there: a row for each test, in the order in which they are tried.
use Rattle.std.specs.Prelude.{ℕ, zero, suc, Bool, true, false, not, cond, List, [], ◌∷◌, ◌≡◌, eqb, leb, ltb, length, get_or}
use Rattle.std.proofs.Math.Option.{Option, none, some}
use Rattle.sizes.specs.Meaning.{filter_count, entry_count}
use Rattle.record.specs.declared.Record.{Record}
use Rattle.record.specs.declared.ClearRecord.{ClearRecord}
use Rattle.record.specs.declared.Kind.{Kind}
use Rattle.record.specs.Meaning.{kind_of, fields_of, values_at, fields_in_range, refusal_number_of, record_of, length_in, in_turn_in, of_entry, of_start, of_arrival, of_clear}
use Rattle.bank.specs.Meaning.{component, port, gate_is_set, entries, meter_is_set, group, scheduler_is_set}
use Rattle.filter.specs.Meaning.{Missing, ExceedsBurst, no_key}
use Rattle.filter.specs.Meaning.{is_filter_of, counts_of, row_of, is_found}
use Rattle.verdict.specs.Meaning.{Verdict}
use Rattle.verdict.specs.Meaning.{Refused, Taken, Passed, Dropped}
use Rattle.setup.specs.Meaning.{incomplete_of}
use Rattle.stage.specs.Meaning.{Bridge, first_row, started_of, take_of}
use Rattle.promises.specs.Meaning.{Call}
use Rattle.record.specs.declared.Record.TheVariants as kind

-- the number of the refusal that a call answers, 0 where it answers none
abbrev pub refusal_in : Verdict → ℕ
refusal_in (Refused why) = refusal_number_of why
refusal_in Taken = 0
refusal_in (Passed p) = 0
refusal_in (Dropped d) = 0

abbrev pub refusal_of : Bridge → Call → ℕ
refusal_of b c = refusal_in (take_of b c).answer.verdict

-- ---- a table of numbers and tests

pub record Try : Type 0 where
  pub number : ℕ
  pub holds : Bool

abbrev pub try : ℕ → Bool → Try
try n t = record { number = n; holds = t }

-- the number of the first row whose test holds, 0 where none does
abbrev pub first_holding : List Try → ℕ
first_holding [] = 0
first_holding (t ∷ ts) = cond t.holds t.number (first_holding ts)

-- row k, counted from 0, holds, and no row before it does
abbrev pub StandsFirst : ℕ → List Try → Type 0
StandsFirst k [] = ⊥
StandsFirst zero (t ∷ ts) = t.holds ≡ true
StandsFirst (suc k) (t ∷ ts) = (t.holds ≡ false) × StandsFirst k ts

-- ---- the tests on a record whose fields are in range

-- 5: "the port, filter, gate, meter, group or scheduler is set up already"
abbrev pub already_test : Bridge → Record → Bool
already_test b (kind.Port r) = (port b.bank r.port).set
already_test b (kind.Filter r) = is_filter_of (row_of b.table r.id)
already_test b (kind.Gate r) = gate_is_set b.bank r.id
already_test b (kind.GateEntry r) = false
already_test b (kind.Meter r) = meter_is_set b.bank r.id
already_test b (kind.Group r) = (group b.bank r.id).set
already_test b (kind.Scheduler r) = scheduler_is_set b.bank r.id
already_test b (kind.Start r) = false
already_test b (kind.Arrival a) = false
already_test b (kind.Clear r) = false

-- 6: "a ninth entry for one gate"
abbrev pub ninth_test : Bridge → Record → Bool
ninth_test b = of_entry (λ r. not (ltb (entries b.bank r.gate) entry_count)) false

-- 7: "start: a filter's gate, meter or scheduler, an entry's gate or a scheduler's group is missing"
abbrev pub missing_test : Bridge → Record → Bool
missing_test b = of_start (λ r. incomplete_of b.bank (first_row b Missing no_key)) false

-- 8: "start: a filter with a scheduler has no max SDU, or max SDU plus the largest port overhead exceeds the burst"
abbrev pub exceeds_test : Bridge → Record → Bool
exceeds_test b = of_start (λ r. is_found (first_row b ExceedsBurst no_key)) false

-- 9: "arrival time before that of the last taken arrival"
abbrev pub early_test : Bridge → Record → Bool
early_test b = of_arrival (λ a. ltb a.time (component b.bank).clock) false

-- 10: "clear: that filter, gate or meter isn't set up"
abbrev pub clearable_of : Bridge → ClearRecord → Bool
clearable_of b r =
    cond (eqb r.flag 1) (counts_of b.bank (row_of b.table r.id))
    (cond (eqb r.flag 2) (gate_is_set b.bank r.id)
    (cond (eqb r.flag 3) (gate_is_set b.bank r.id)
    (cond (eqb r.flag 4) (meter_is_set b.bank r.id) false)))

abbrev pub absent_test : Bridge → Record → Bool
absent_test b = of_clear (λ r. not (clearable_of b r)) false

abbrev pub record_tries : Bridge → Record → List Try
record_tries b r =
    try 5 (already_test b r) ∷ try 6 (ninth_test b r) ∷ try 7 (missing_test b r) ∷ try 8 (exceeds_test b r) ∷ try 9 (early_test b r) ∷ try 10 (absent_test b r) ∷ []

-- ---- the tests on the octets. `k` is the kind that the first of them says

-- no octet is there
abbrev pub empty_of : Call → Bool
empty_of [] = true
empty_of (n ∷ s) = false

abbrev pub unknown_of : Option Kind → Bool
unknown_of none = true
unknown_of (some k) = false

abbrev pub out_of_range_of : Option Kind → Call → Bool
out_of_range_of none c = false
out_of_range_of (some k) c = not (fields_in_range k (values_at c 1 (fields_of k)))

-- of the record that the octets say
abbrev pub of_record : (Record → Bool) → Option Kind → Call → Bool
of_record test none c = false
of_record test (some k) c = test (record_of k (values_at c 1 (fields_of k)))

-- of a record whose octets are all there
abbrev pub body_tries : Bridge → Call → Option Kind → List Try
body_tries b c k =
    try 4 (not (in_turn_in k (started_of b.bank)))
    ∷ try 3 (out_of_range_of k c)
    ∷ try 5 (of_record (already_test b) k c)
    ∷ try 6 (of_record (ninth_test b) k c)
    ∷ try 7 (of_record (missing_test b) k c)
    ∷ try 8 (of_record (exceeds_test b) k c)
    ∷ try 9 (of_record (early_test b) k c)
    ∷ try 10 (of_record (absent_test b) k c)
    ∷ []

-- 2: "kind 0 or above 10"; 1: "(tried after 2) the body is cut short"
abbrev pub kind_tries : Bridge → Call → Option Kind → List Try
kind_tries b c k = try 2 (unknown_of k) ∷ try 1 (not (leb (length_in k) (length c))) ∷ body_tries b c k

abbrev pub octet_tries : Bridge → Call → List Try
octet_tries b c = try 1 (empty_of c) ∷ kind_tries b c (kind_of (get_or c 0 0))

-- the whole table
abbrev pub tries_of : Bridge → Call → List Try
tries_of b c = try 11 (not (eqb (length b.table) filter_count)) ∷ octet_tries b c
