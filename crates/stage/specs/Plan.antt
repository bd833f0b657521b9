-- A plan by which a call can be done: the record is read, the filter table is asked at most twice, and the rest is decided without the table.
-- `proofs/Agree.antt` says that this comes to the same as `take_of`. The code does not go by it: `stage::take` is one `match` on the record.
use Rattle.std.specs.Prelude.{ℕ, ◌+◌, cond, List, Some, None, Ok, Err}
use Rattle.sizes.specs.Meaning.{filter_count}
use Rattle.record.specs.declared.Record.{Record}
use Rattle.record.specs.declared.Record.TheVariants as kind
use Rattle.record.specs.declared.FilterRecord.{FilterRecord}
use Rattle.record.specs.declared.Refusal.TheVariants.{SetUpAlready}
use Rattle.record.specs.Meaning.{Reading, body_in, read_of, of_start}
use Rattle.bank.specs.Meaning.{Rows}
use Rattle.filter.specs.declared.Filter.{Filter}
use Rattle.filter.specs.declared.Key.{Key}
use Rattle.filter.specs.Meaning.{Asks, Fits, Missing, ExceedsBurst, Any, Question, Found, is_filter_of, no_row}
use Rattle.verdict.specs.Meaning.{Verdict, Refused, Taken, Answer, Told}
use Rattle.path.specs.Meaning.{arrival_of}
use Rattle.setup.specs.Meaning.{Listed, set_port_of, set_gate_of, add_entry_of, set_meter_of, set_group_of, set_scheduler_of, start_of, clear_of}
use Rattle.stage.specs.Meaning.{answered, filter_of, no_key, key_of, started_of}

-- what a call is to do: the record as read, and the two searches of the filter table that it needs
pub record Plan : Type 0 where
  pub reading : Reading
  pub first : Question
  pub second : Question

-- what a call gives: the row to store and its place, which is past the table's end where there is none, and the answer
pub record Done : Type 0 where
  pub at : ℕ
  pub row : Filter
  pub answer : Answer

-- ---- what is asked of the filter table

-- no row is asked
abbrev pub no_row_asked : Question
no_row_asked = record { from = 0; to = 0; asks = Any; key = no_key }

-- the row of filter `id`, whatever it is
abbrev pub one_row_asked : ℕ → Question
one_row_asked id = record { from = id; to = id + 1; asks = Any; key = no_key }

abbrev pub all_rows_asked : Asks → Key → Question
all_rows_asked asks key = record { from = 0; to = filter_count; asks = asks; key = key }

abbrev pub first_asked : Record → Question
first_asked = of_start (λ r. all_rows_asked Missing no_key) no_row_asked

abbrev pub second_asked : Record → Question
second_asked (kind.Port r) = no_row_asked
second_asked (kind.Filter r) = one_row_asked r.id
second_asked (kind.Gate r) = no_row_asked
second_asked (kind.GateEntry r) = no_row_asked
second_asked (kind.Meter r) = no_row_asked
second_asked (kind.Group r) = no_row_asked
second_asked (kind.Scheduler r) = no_row_asked
second_asked (kind.Start r) = all_rows_asked ExceedsBurst no_key
second_asked (kind.Arrival a) = all_rows_asked Fits (key_of a)
second_asked (kind.Clear r) = one_row_asked r.id

abbrev pub plan_by : Reading → Plan
plan_by (Err r) = record { reading = Err r; first = no_row_asked; second = no_row_asked }
plan_by (Ok (r, used)) = record { reading = Ok (r, used); first = first_asked r; second = second_asked r }

abbrev pub plan_of : Rows → List ℕ → Plan
plan_of s input = plan_by (read_of input (started_of s))

-- ---- what is decided without the table

pub record Settled : Type 0 where
  pub bank : Rows
  pub lists : List ℕ
  pub done : Done

abbrev pub settled : Rows → List ℕ → Done → Settled
settled s lists d = record { bank = s; lists = lists; done = d }

-- the row that was found; the empty one where there is none
abbrev pub row_in : Found → Filter
row_in None = no_row
row_in (Some (i, row)) = row

-- no row is stored: the place is past the table's end
abbrev pub kept : ℕ → Verdict → Done
kept used v = record { at = filter_count; row = no_row; answer = answered used v }

-- a filter's record, at a place that holds `row`
unfoldable pub placed_of : FilterRecord → ℕ → Filter → Done
placed_of r used row = cond (is_filter_of row) (kept used (Refused SetUpAlready)) (record { at = r.id; row = filter_of r; answer = answered used Taken })

abbrev pub bank_settled : List ℕ → ℕ → Told → Settled
bank_settled lists used t = settled t.bank lists (kept used t.verdict)

abbrev pub lists_settled : ℕ → Listed → Settled
lists_settled used t = settled t.bank t.lists (kept used t.verdict)

-- `miss` and `hit` are what the two searches found
unfoldable pub taken_by : Rows → List ℕ → List ℕ → Record → ℕ → Found → Found → Settled
taken_by s lists input (kind.Port r) used miss hit = bank_settled lists used (set_port_of s r)
taken_by s lists input (kind.Filter r) used miss hit = settled s lists (placed_of r used (row_in hit))
taken_by s lists input (kind.Gate r) used miss hit = bank_settled lists used (set_gate_of s r)
taken_by s lists input (kind.GateEntry r) used miss hit = lists_settled used (add_entry_of s lists (body_in input used) r)
taken_by s lists input (kind.Meter r) used miss hit = bank_settled lists used (set_meter_of s r)
taken_by s lists input (kind.Group r) used miss hit = bank_settled lists used (set_group_of s r)
taken_by s lists input (kind.Scheduler r) used miss hit = bank_settled lists used (set_scheduler_of s r)
taken_by s lists input (kind.Start r) used miss hit = bank_settled lists used (start_of s r miss hit)
taken_by s lists input (kind.Arrival a) used miss hit = bank_settled lists used (arrival_of s lists a hit)
taken_by s lists input (kind.Clear r) used miss hit = bank_settled lists used (clear_of s r (row_in hit))

unfoldable pub decided_of : Rows → List ℕ → List ℕ → Reading → Found → Found → Settled
decided_of s lists input (Err r) miss hit = settled s lists (kept 0 (Refused r))
decided_of s lists input (Ok (r, used)) miss hit = taken_by s lists input r used miss hit
