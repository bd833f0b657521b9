-- `record::read` meets its contract where the first octet says a kind. Assumes nothing.
use Rattle.std.proofs.Common.{sym, ◌∙◌}
use Rattle.std.proofs.lemmas.Result.{err_from_is_err_and}
use Rattle.record.proofs.Cases.{known_cut, read_out_of_turn, known_whole}
use Rattle.record.proofs.read.Goals as goal

pub returns-then-input-used : goal.returns-then-input-used
returns-then-input-used c = sym (known_cut c.args.input.now c.args.started _ (sym c.in_ok-kind.ensures) (rw c.length-used.ensures at c.if-input-used.true))

pub returns-then-not-in_turn : goal.returns-then-not-in_turn
returns-then-not-in_turn c =
    sym (read_out_of_turn c.args.input.now c.args.started _ (sym c.in_ok-kind.ensures) (rw c.length-used.ensures at c.if-input-used.false) (sym c.in_turn.ensures ∙ c.if-not-in_turn.true))

pub returns-in_err-r : goal.returns-in_err-r
returns-in_err-r c =
    let p = err_from_is_err_and c.from_residual-in_err-r.result c.from_residual-in_err-r.ensures.1 in
    let w = known_whole c.args.input.now c.args.started _ (sym c.in_ok-kind.ensures) (rw c.length-used.ensures at c.if-input-used.false) (sym c.in_turn.ensures ∙ c.if-not-in_turn.false) in
    let r = rw c.in_err-r.ensures.ok_part at c.read.ensures in
    let v = rw c.in_err-r.ensures.ok_part at c.in_err-r.ensures.value in
    rw (p.1, p.2, w, sym r) (cc)

pub returns : goal.returns
returns c =
    let w = known_whole c.args.input.now c.args.started _ (sym c.in_ok-kind.ensures) (rw c.length-used.ensures at c.if-input-used.false) (sym c.in_turn.ensures ∙ c.if-not-in_turn.false) in
    let r = rw c.in_ok-r.ensures.ok_part at c.read.ensures in
    rw c.length-used.ensures (r ∙ sym w)
