-- From the loop's place on the same place is found.
use Rattle.std.proofs.Common.{◌≡◌}
use Rattle.filter.specs.Meaning.{Fits, of_every_place}
use Rattle.filter.specs.Seek.{seek_of}
use Rattle.filter.proofs.seek.Given as goal

abbrev pub invariant-loop-i : goal.invariant-loop-i
invariant-loop-i l = seek_of (of_every_place Fits l.key) l.table l.i ≡ seek_of (of_every_place Fits l.key) l.table 0
