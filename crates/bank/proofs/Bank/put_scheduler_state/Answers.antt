-- `Bank::put_scheduler_state` meets its contract: of two stores into one row the second has the word of the first.
use Rattle.std.proofs.Common.{ap, ◌∙◌, ℕ}
use Rattle.bank.specs.Meaning.{rows_of, with_row, row_with, row_of_scheduler_state}
use Rattle.bank.proofs.Rows.{row_twice}
use Rattle.bank.proofs.Bank.put_scheduler_state.Goals as goal

pub returns : goal.returns
returns c =
    c.put_word-2.ensures ∙ row_twice _ _ _ _ (λ row. row_with row 5 c.args.x.last) c.put_word.ensures
    ∙ ap (λ (r : ℕ). with_row (rows_of c.args.self.now) r (row_of_scheduler_state (rows_of c.args.self.now r) c.args.x)) c.row-r.ensures
