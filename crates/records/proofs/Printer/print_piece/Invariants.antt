-- the place is in the piece
use Rattle.std.proofs.Common.{◌≤◌, ◌-◌, length}
use Rattle.records.proofs.Printer.print_piece.Given as goal

abbrev pub invariant-loop-at : goal.invariant-loop-at
invariant-loop-at g l = l.at ≤ length l.piece

abbrev pub decreases-loop-at : goal.decreases-loop-at
decreases-loop-at g l = length l.piece - l.at
