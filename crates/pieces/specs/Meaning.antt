-- What stands in the buffer of a piece after a read, what is kept of it at the front, and what is said of a read or a write that fails.
use Rattle.std.specs.Prelude.{ℕ, ◌≤◌, ◌≡◌, List, [], ◌++◌, length, take, drop, Option, Some, None, Result, Ok, Err}
use Rattle.std.proofs.Math.Seq.{slice}
use Rattle.text.specs.Meaning.{ascii}
use Rattle.pieces.specs.declared.Failure.{Failure}
use Rattle.pieces.specs.declared.Failure.TheVariants.{Input, Output}

-- up to `end` there are the octets that were kept, and behind them those that were read
pub record Fills (before : List ℕ) (kept : ℕ) (after : List ℕ) (end : ℕ) : Type 0 where
  pub read : List ℕ
  pub there : take end after ≡ take kept before ++ read
  pub within : end ≤ length after

-- and those that were kept are as they were where the read fails
abbrev pub Filled : List ℕ → ℕ → List ℕ → Result ℕ Failure → Type 0
Filled before kept after (Ok end) = Fills before kept after end
Filled before kept after (Err failure) = take kept after ≡ take kept before

-- a buffer, and how many octets wait at its front
pub record Kept : Type 0 where
  pub buffer : List ℕ
  pub waiting : ℕ

abbrev pub front_of : List ℕ → List ℕ → Kept
front_of buf left = record { buffer = left ++ drop (length left) buf; waiting = length left }

-- the octets from `from` to `end`, as far as the buffer goes, stand at the front; those behind them are as they were
unfoldable pub kept_of : List ℕ → ℕ → ℕ → Kept
kept_of buf from end = front_of buf (slice from end buf)

-- ---- a read or a write that fails

-- the line that says so, after the program's name
unfoldable pub complaint_of : List ℕ → Option Failure → List ℕ
complaint_of program None = []
complaint_of program (Some Input) = program ++ ascii ": standard input cannot be read\n"
complaint_of program (Some Output) = program ++ ascii ": standard output cannot be written\n"
