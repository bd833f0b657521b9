-- What a row of the filter table says (01, Records, kind 2 and the filter table's paragraph), which rows start refuses (01, refusals 7 and 8),
-- and which row a frame uses (01, A frame's path, step 1).
use Rattle.std.specs.Prelude.{ℕ, zero, suc, ◌+◌, ◌-◌, Bool, true, not, ◌&&◌, ◌||◌, cond, List, eqb, leb, ltb, get_or, Option, Some, None, is_some}
use Rattle.sizes.specs.Meaning.{filter_count, last_gate, last_meter, last_scheduler}
use Rattle.frame.specs.Meaning.{length_of}
use Rattle.record.specs.declared.FilterRecord.{FilterRecord}
use Rattle.record.specs.declared.ArrivalRecord.{ArrivalRecord}
use Rattle.bank.specs.Meaning.{Rows, gate_is_set, meter_is_set, scheduler_is_set, burst, component}
use Rattle.filter.specs.declared.Filter.{Filter}
use Rattle.filter.specs.declared.Key.{Key}
use Rattle.filter.specs.declared.Asks.{Asks as AskedOf}
use Rattle.filter.specs.declared.Asks.TheVariants as question
use Rattle.filter.specs.declared.Question.{Question as QuestionAsked}

-- ---- a row

-- the empty row: what each place holds in the beginning
abbrev pub no_row : Filter
no_row = record { handle = 0; max_sdu = 0; used = 0; any_handle = 0; priority = 0; gate = 0; oversize_block = 0; meter = 0; scheduler = 0 }

-- the row that a filter's record writes
abbrev pub filter_of : FilterRecord → Filter
filter_of r =
    record {
      handle = r.handle;
      max_sdu = r.max_sdu;
      used = 1;
      any_handle = r.any_handle;
      priority = r.priority;
      gate = r.gate;
      oversize_block = r.oversize_block;
      meter = r.meter;
      scheduler = r.scheduler;
    }

-- kind 2, field by field in its order. A number that is 255 names no meter or no scheduler
unfoldable pub row_in_range : Filter → Bool
row_in_range f =
    leb f.any_handle 1 && (eqb f.any_handle 0 || eqb f.handle 0) && leb f.priority 8 && leb f.gate last_gate && leb f.max_sdu 2000 && leb f.oversize_block 1
    && (leb f.meter last_meter || eqb f.meter 255)
    && (leb f.scheduler last_scheduler || eqb f.scheduler 255)

-- a place that isn't empty: its row is used, and no field of it is out of range
unfoldable pub is_filter_of : Filter → Bool
is_filter_of f = eqb f.used 1 && row_in_range f

-- ---- what start looks for, and what a spoiled row is after it

-- refusal 7: a gate, meter or scheduler that the row names isn't set up
unfoldable pub names_missing : Rows → Filter → Bool
names_missing s f =
    not (gate_is_set s f.gate) || (not (eqb f.meter 255) && not (meter_is_set s f.meter)) || (not (eqb f.scheduler 255) && not (scheduler_is_set s f.scheduler))

-- refusal 8: a scheduler is named, and there is no max SDU, or a frame of that length exceeds the burst at the largest port overhead
unfoldable pub exceeds_burst : Rows → Filter → Bool
exceeds_burst s f = not (eqb f.scheduler 255) && (eqb f.max_sdu 0 || ltb (burst s f.scheduler).0 (length_of f.max_sdu (component s).overhead))

-- after start: a row that is a filter and that start would not refuse. Any other place counts as empty
unfoldable pub counts_of : Rows → Filter → Bool
counts_of s f = is_filter_of f && not (names_missing s f) && not (exceeds_burst s f)

-- ---- a frame

-- what a frame is matched by
abbrev pub key_of : ArrivalRecord → Key
key_of a = record { handle = a.handle; priority = a.priority }

-- the row's handle and priority both match a frame's (01, A frame's path, step 1)
unfoldable pub fits_of : Key → Filter → Bool
fits_of k f = (eqb f.any_handle 1 || eqb f.handle k.handle) && (eqb f.priority 8 || eqb f.priority k.priority)

-- ---- the table

-- place i of the table; past its end every place is empty
abbrev pub row_of : List Filter → ℕ → Filter
row_of rows i = get_or rows i no_row

-- ---- a search

-- what is asked of a row: that a frame uses it, that start refuses it with 7, that start refuses it with 8, nothing
pub data Asks : Type 0 where
  Fits : Asks
  Missing : Asks
  ExceedsBurst : Asks
  Any : Asks

-- a question on the places `from` up to and without `to`. Only `Fits` looks at the key
pub record Question : Type 0 where
  pub from : ℕ
  pub to : ℕ
  pub asks : Asks
  pub key : Key

-- the same as the code has them
abbrev pub asks_of : AskedOf → Asks
asks_of question.Fits = Fits
asks_of question.Missing = Missing
asks_of question.ExceedsBurst = ExceedsBurst
asks_of question.Any = Any

abbrev pub question_of : QuestionAsked → Question
question_of q = record { from = q.from; to = q.to; asks = asks_of q.asks; key = q.key }

-- a question on every place
abbrev pub of_every_place : Asks → Key → Question
of_every_place asks key = record { from = 0; to = filter_count; asks = asks; key = key }

-- of what start asks, which matches nothing
abbrev pub no_key : Key
no_key = record { handle = 0; priority = 0 }

abbrev pub asked : Asks → Rows → Key → Filter → Bool
asked Fits s k f = fits_of k f && counts_of s f
asked Missing s k f = is_filter_of f && names_missing s f
asked ExceedsBurst s k f = is_filter_of f && exceeds_burst s f
asked Any s k f = true

unfoldable pub row_answers : Rows → Question → Filter → Bool
row_answers s q f = asked q.asks s q.key f

-- what is found: no row, or a place and its row
abbrev pub Found : Type 0
Found = Option (ℕ × Filter)

-- the rows are read in ascending identifier: of the n places from i on, the first whose row passes the test
abbrev pub first_found : (Filter → Bool) → List Filter → ℕ → ℕ → Found
first_found test rows i zero = None
first_found test rows i (suc n) = cond (test (row_of rows i)) (Some (i, row_of rows i)) (first_found test rows (i + 1) n)

-- up to and without `to`
abbrev pub search_from : Rows → Question → List Filter → ℕ → Found
search_from s q rows i = first_found (row_answers s q) rows i (q.to - i)

unfoldable pub search_of : Rows → Question → List Filter → Found
search_of s q rows = search_from s q rows q.from

abbrev pub is_found : Found → Bool
is_found found = is_some found
