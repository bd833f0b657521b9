-- The page is written once `half` is filled, so that a line always finds its room.
use Rattle.std.specs.Prelude.{ℕ, ◌+◌, ◌≤◌, List, length}
use Rattle.lines.specs.Room.{record_room}

abbrev pub half : ℕ
half = 32_768

-- room for a line after the octets that wait to be written
abbrev pub HasRoom : List ℕ → ℕ → Type 0
HasRoom out filled = filled + record_room ≤ length out
