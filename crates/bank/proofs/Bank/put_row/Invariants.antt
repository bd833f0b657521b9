-- The words before the loop's place are stored.
use Rattle.std.proofs.Common.{◌≡◌}
use Rattle.std.proofs.Math.Seq.{paste}
use Rattle.bank.proofs.Bank.put_row.Given as goal

abbrev pub invariant-loop-k : goal.invariant-loop-k
invariant-loop-k l = l.self.words ≡ paste l.fn.self.words l.at l.fn.row l.k
