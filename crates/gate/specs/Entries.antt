-- An entry by its own octets, as the walk over a list has them in hand.
use Rattle.std.specs.Prelude.{ℕ, List}
use Rattle.gate.specs.declared.Entry.{Entry}
use Rattle.gate.specs.Meaning.{entry_at}

abbrev pub entry_in : List ℕ → Entry
entry_in octets = entry_at octets 0
