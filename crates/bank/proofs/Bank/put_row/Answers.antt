-- `Bank::put_row` meets its contract: each turn stores one word more (`paste_more`), and eight of them are the row (`row_put`).
use Rattle.std.proofs.Common.{◌*◌, ◌+◌, List, ℕ, slice_set, slice_index_or, ap, ◌∙◌, arith}
use Rattle.std.proofs.lemmas.List.Edits.{paste_more}
use Rattle.bank.specs.Meaning.{rows_in}
use Rattle.bank.proofs.Rows.{row_put}
use Rattle.bank.proofs.Bank.put_row.Goals as goal

pub loop-k-preserved : goal.loop-k-preserved
loop-k-preserved c =
    ap (λ (ws : List ℕ). slice_set ws (c.args.r * 8 + c.loop-k.k) (slice_index_or c.args.row c.loop-k.k 0)) c.loop-k.invariant
    ∙ paste_more c.args.self.now.words (c.args.r * 8) c.args.row c.loop-k.k 0 (omega arith) (omega arith)

pub returns : goal.returns
returns c = ap rows_in c.loop-k.invariant ∙ row_put c.args.self.now.words c.args.r c.loop-k.k c.args.row (omega arith) (omega arith) (omega arith)
