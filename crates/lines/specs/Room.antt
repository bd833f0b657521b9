-- The room of a record's line: no line of a record that is read is longer (proofs/Room.antt).
use Rattle.std.specs.Prelude.{ℕ}

abbrev pub record_room : ℕ
record_room = 192
