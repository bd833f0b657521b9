-- Invariant: what is looked for among the entries from the one at hand on is what was asked for.
use Rattle.std.proofs.Common.{◌≡◌, ◌≤◌, map, drop}
use Rattle.gate.specs.Entries.{entry_in}
use Rattle.gate.specs.Meaning.{found_of}
use Rattle.gate.proofs.find.Given as goal

abbrev pub invariant-loop-index : goal.invariant-loop-index
invariant-loop-index l = (l.x ≤ l.time) × (found_of l.time (map entry_in (drop l.index l.entries)) l.index l.x ≡ found_of l.time (map entry_in l.entries) 0 l.offset)
