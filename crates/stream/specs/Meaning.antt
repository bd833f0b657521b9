-- What a stream of records from standard input comes to, and its last line.
use Rattle.std.specs.Prelude.{◌≡◌, ℕ, ◌%◌, ◌^◌, Bool, true, false, cond, Option, Some, None, Result, Ok, Err, List, [], length, ◌==◌, ◌&&◌}
use Rattle.sizes.specs.Meaning.{filter_count}
use Rattle.record.specs.declared.Refusal.{Refusal}
use Rattle.record.specs.Meaning.{refusal_number_of}
use Rattle.bank.specs.Meaning.{Rows}
use Rattle.filter.specs.declared.Filter.{Filter}
use Rattle.filter.specs.Meaning.{no_row}
use Rattle.verdict.specs.Meaning.{Answer}
use Rattle.stage.specs.Meaning.{bridge}
use Rattle.text.specs.Meaning.{end_line_of, refused_line_of}
use Rattle.run.specs.Input.Meaning.{Front, Input, used_in}
use Rattle.pieces.specs.declared.Failure.{Failure}
use Rattle.pieces.specs.declared.Failure.TheVariants.{Input as InputFailure, Output}
use Rattle.promises.specs.Meaning.{repeated}
use Rattle.stream.specs.declared.Drained.{Drained}

-- no place of the table is used
abbrev pub empty_table : List Filter
empty_table = repeated no_row filter_count

-- a body cut short, where no octet is left, is no refusal but the end: 0
unfoldable pub ended_of : ℕ → ℕ → ℕ
ended_of refusal left = cond (refusal == 1 && left == 0) 0 refusal

-- a stream that goes on after all its turns is given up as one that cannot be read
abbrev pub failure_of : Result Bool Failure → Option Failure
failure_of (Ok true) = Some InputFailure
failure_of (Ok false) = None
failure_of (Err failure) = Some failure

-- for some octets that were read, the stream has taken records at their front, from an empty table and the bank and lists as they were; and unless something has
-- failed, it has come to the end of that input
pub record Drains (bank : Rows) (lists : List ℕ) (bank' : Rows) (lists' : List ℕ) (d : Drained) : Type 0 where
  pub input : List ℕ
  pub answers : List Answer
  pub table : List Filter
  pub rest : List ℕ
  pub front : Front (bridge empty_table bank lists) input answers (bridge table bank' lists') rest
  pub records : d.records ≡ length answers % 2 ^ 64
  pub octets : d.octets ≡ used_in answers % 2 ^ 64
  pub whole : d.failure ≡ None
      → (why : Refusal) × (Input (bridge empty_table bank lists) input answers (bridge table bank' lists') rest why × (d.refusal ≡ ended_of (refusal_number_of why) (length rest)))

-- a report leaves the end as it was, or says that it could not be written
pub data Reported (d : Drained) : Drained → Type 0 where
  as_it_was : Reported d d
  unwritten : d.failure ≡ None → Reported d (record { failure = Some Output; refusal = d.refusal; records = d.records; octets = d.octets })

-- the records taken, or the refusal and the octets taken before it
abbrev pub end_of : Drained → List ℕ
end_of d = cond (d.refusal == 0) (end_line_of d.records) (refused_line_of d.refusal d.octets)

-- no line where something has failed
abbrev pub line_by : Option Failure → Drained → List ℕ
line_by None d = end_of d
line_by (Some failure) d = []

unfoldable pub last_line_of : Drained → List ℕ
last_line_of d = line_by d.failure d
