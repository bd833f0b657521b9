-- With the octets that are still to come stored, all are.
use Rattle.std.proofs.Common.{◌≡◌, ◌-◌}
use Rattle.sizes.specs.Meaning.{entry_octets}
use Rattle.bank.specs.Meaning.{store}
use Rattle.setup.specs.Meaning.{entry_kept}
use Rattle.setup.proofs.Cases.{octets_from}
use Rattle.setup.proofs.keep.Given as goal

abbrev pub invariant-loop-k : goal.invariant-loop-k
invariant-loop-k l = store l.lists l.at l.k (octets_from l.body l.k (entry_octets - l.k)) ≡ entry_kept l.fn.lists l.at l.body
