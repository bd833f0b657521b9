-- What is left to do after a step of a frame's path: the contracts of the steps say so, and document 01 does not.
use Rattle.std.specs.Prelude.{Result, Ok, Err}
use Rattle.bank.specs.Meaning.{Rows}
use Rattle.verdict.specs.declared.Drop.{Drop}
use Rattle.verdict.specs.Meaning.{Dropped, Told, told}

-- what comes next of the step's answer, on the rows as the step left them; nothing where the frame is dropped
abbrev pub onward : {A : Type 0} → Rows → Result A Drop → (Rows → A → Told) → Told
onward s (Ok x) next = next s x
onward s (Err why) next = told s (Dropped why)
