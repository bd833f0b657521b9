-- A record that is read in a piece from a place on ends in the piece, and its line fits the room kept for it. Assumes nothing.
use Rattle.std.proofs.Common.{◌≡◌, ℕ, ◌+◌, ◌-◌, ◌≤◌, Bool, Ok, List, length, take, drop, arith, length-drop, length-take}
use Rattle.record.specs.declared.Record.{Record}
use Rattle.record.specs.Meaning.{read_of}
use Rattle.record.proofs.Laws.{Octets, read_uses}
use Rattle.lines.specs.Meaning.{line_of}
use Rattle.lines.specs.Room.{record_room}
use Rattle.lines.proofs.Room.{octets_part, record_room_lem}

-- it uses an octet or more, and no more than are left
pub used_within : (s : List ℕ) (at : ℕ) (started : Bool) (r : Record) (used : ℕ) → read_of (take (length s - at) (drop at s)) started ≡ Ok (r, used) → (1 ≤ used) × (used ≤ length s - at)
used_within s at started r used e =
    let u = read_uses (take (length s - at) (drop at s)) started r used e in
    (u.0, omega (arith, u.1, length-take (length s - at) (drop at s), length-drop at s))

pub inside : (s : List ℕ) (at : ℕ) (started : Bool) (r : Record) (used : ℕ) → at ≤ length s → read_of (take (length s - at) (drop at s)) started ≡ Ok (r, used) → at + used ≤ length s
inside s at started r used h e = omega (arith, h, (used_within s at started r used e).1)

pub fits : (s : List ℕ) (at : ℕ) (started : Bool) (r : Record) (used : ℕ) → Octets s → read_of (take (length s - at) (drop at s)) started ≡ Ok (r, used) → length (line_of r) ≤ record_room
fits s at started r used o e = record_room_lem (take (length s - at) (drop at s)) started r used (octets_part s (length s - at) at o) e
