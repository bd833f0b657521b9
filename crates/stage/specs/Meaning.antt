-- One call, one record: what the lent filter table, the bank, the gate lists and the answer are after it.
-- The sections of document 01 in their order: the records and their refusals, then each kind. What a setup record, a start or a clear does
-- is in the crate setup, a frame's path in the crate path, reading in the crate record, each in the file of this name.
use Rattle.std.specs.Prelude.{ℕ, Bool, cond, List, eqb, length, set, Ok, Err}
use Rattle.sizes.specs.Meaning.{filter_count}
use Rattle.record.specs.declared.Record.{Record}
use Rattle.record.specs.declared.Refusal.{Refusal}
use Rattle.record.specs.declared.Refusal.TheVariants.{TableLength, SetUpAlready}
use Rattle.record.specs.Meaning.{Reading, body_in, read_of}
use Rattle.bank.specs.Meaning.{Rows, is_set, component}
use Rattle.filter.specs.declared.Filter.{Filter}
use Rattle.filter.specs.declared.Key.{Key}
use Rattle.filter.specs.Meaning.{Asks, Fits, Missing, ExceedsBurst, of_every_place, Found, is_filter_of, row_of, search_of}
pub use Rattle.filter.specs.Meaning.{filter_of, key_of, no_key}
use Rattle.verdict.specs.Meaning.{Verdict, Refused, Taken, Passed, Dropped, Answer, Told}
use Rattle.path.specs.Meaning.{arrival_of}
use Rattle.setup.specs.Meaning.{Listed, set_port_of, set_gate_of, add_entry_of, set_meter_of, set_group_of, set_scheduler_of, start_of, clear_of}
use Rattle.record.specs.declared.Record.TheVariants as kind

-- ---- the bridge, and what a call leaves of it

pub record Bridge : Type 0 where
  pub table : List Filter
  pub bank : Rows
  pub lists : List ℕ

pub record Took : Type 0 where
  pub after : Bridge
  pub answer : Answer

abbrev pub bridge : List Filter → Rows → List ℕ → Bridge
bridge table s lists = record { table = table; bank = s; lists = lists }

abbrev pub took : List Filter → Rows → List ℕ → Answer → Took
took table s lists a = record { after = bridge table s lists; answer = a }

-- a refusal reports 0 octets used, a taken record its whole length
abbrev pub answered : ℕ → Verdict → Answer
answered used (Refused r) = record { used = 0; verdict = Refused r }
answered used Taken = record { used = used; verdict = Taken }
answered used (Passed p) = record { used = used; verdict = Passed p }
answered used (Dropped d) = record { used = used; verdict = Dropped d }

-- a refusal leaves tables, state and counters as before the call
abbrev pub refused_of : Bridge → Refusal → Took
refused_of b r = record { after = b; answer = answered 0 (Refused r) }

-- what a record does to the bank alone, and to the bank and the lists
abbrev pub bank_took : Bridge → ℕ → Told → Took
bank_took b used t = took b.table t.bank b.lists (answered used t.verdict)

abbrev pub lists_took : Bridge → ℕ → Listed → Took
lists_took b used t = took b.table t.bank t.lists (answered used t.verdict)

-- ---- the filter table. Place n is filter n's

-- the first row of the table of which something holds
abbrev pub first_row : Bridge → Asks → Key → Found
first_row b asks key = search_of b.bank (of_every_place asks key) b.table

-- ---- each kind of record, its fields in range and in its turn

unfoldable pub taken_of : Bridge → List ℕ → Record → ℕ → Took
taken_of b input (kind.Port r) used = bank_took b used (set_port_of b.bank r)
-- 5 where the place isn't empty
taken_of b input (kind.Filter r) used =
    cond (is_filter_of (row_of b.table r.id)) (refused_of b SetUpAlready)
    (took (set b.table r.id (filter_of r)) b.bank b.lists (answered used Taken))
taken_of b input (kind.Gate r) used = bank_took b used (set_gate_of b.bank r)
taken_of b input (kind.GateEntry r) used = lists_took b used (add_entry_of b.bank b.lists (body_in input used) r)
taken_of b input (kind.Meter r) used = bank_took b used (set_meter_of b.bank r)
taken_of b input (kind.Group r) used = bank_took b used (set_group_of b.bank r)
taken_of b input (kind.Scheduler r) used = bank_took b used (set_scheduler_of b.bank r)
-- 7 where a filter's gate, meter or scheduler is missing, 8 where one exceeds its scheduler's burst
taken_of b input (kind.Start r) used = bank_took b used (start_of b.bank r (first_row b Missing no_key) (first_row b ExceedsBurst no_key))
-- the rows are read in ascending identifier; the first whose handle and priority both match is used
taken_of b input (kind.Arrival a) used = bank_took b used (arrival_of b.bank b.lists a (first_row b Fits (key_of a)))
taken_of b input (kind.Clear r) used = bank_took b used (clear_of b.bank r (row_of b.table r.id))

-- ---- the refusals, in the order they are tried: 11, then those of the reader (1, 2, 1, 4, 3), then the record's own

unfoldable pub read_by : Bridge → List ℕ → Reading → Took
read_by b input (Err r) = refused_of b r
read_by b input (Ok (r, used)) = taken_of b input r used

-- a start was taken
abbrev pub started_of : Rows → Bool
started_of s = is_set (component s).classes

unfoldable pub take_of : Bridge → List ℕ → Took
take_of b input = cond (eqb (length b.table) filter_count) (read_by b input (read_of input (started_of b.bank))) (refused_of b TableLength)
