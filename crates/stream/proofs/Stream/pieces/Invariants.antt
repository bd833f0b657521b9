-- the stream stands, after each turn, where its state says, and what the turns told is written
use Rattle.std.proofs.Common.{ℕ, List}
use Rattle.std.specs.Io.KnownBytes.{Appends}
use Rattle.bank.specs.Meaning.{rows_of}
use Rattle.stage.specs.Meaning.{Bridge}
use Rattle.stream.specs.Stands.{Stands, Turns}
use Rattle.stream.proofs.Stream.pieces.Given as goal

abbrev pub invariant-loop : goal.invariant-loop
invariant-loop g l = record {
  stands : (b : Bridge) → Stands b l.fn.self (rows_of l.fn.bank) l.fn.lists → Stands b l.self (rows_of l.bank) l.lists;
  told : (text : List ℕ) × (Turns l.fn.self (rows_of l.fn.bank) l.fn.lists l.self (rows_of l.bank) l.lists text × Appends (g.W.Write.contents l.fn.output) (g.W.Write.contents l.output) text);
}
