-- What a step leaves in the words that are lent, and what it answers.
use Rattle.std.specs.Prelude.{ℕ, Bool, not, List, eqb, get_or}

pub record Stepped : Type 0 where
  pub words : List ℕ
  pub answer : ℕ

abbrev pub is_set : List ℕ → ℕ → Bool
is_set words i = not (eqb (get_or words i 0) 0)
