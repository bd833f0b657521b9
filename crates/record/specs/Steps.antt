-- What a step of the reader gives.
use Rattle.std.specs.Prelude.{Option, Some, None, Ok, Err}
use Rattle.record.specs.declared.Record.{Record}
use Rattle.record.specs.declared.Refusal.TheVariants.{OutOfRange}
use Rattle.record.specs.Meaning.{Kind, Reading, record_length}

-- what reading a record of this kind gives, whose octets are all there, where its fields give the record or are out of range
abbrev pub taken_as : Kind → Option Record → Reading
taken_as k None = Err OutOfRange
taken_as k (Some r) = Ok (r, record_length k)
