-- `filter::seek` meets its contract: the loop goes on where a row is passed over (`seek_next`), and stops at a row that isn't (`seek_found`) or
-- where no more are passed over (`seek_over`).
use Rattle.std.proofs.Common.{sym, ◌∙◌, arith, length}
use Rattle.filter.specs.Meaning.{Fits, of_every_place}
use Rattle.filter.proofs.SeekLaws.{seek_found, seek_next, seek_over, passable_every}
use Rattle.filter.proofs.seek.Goals as goal

pub returns-then-near : goal.returns-then-near
returns-then-near c =
    let far = passable_every c.args.key (length c.args.table.now) in
    sym (seek_found (of_every_place Fits c.args.key) c.args.table.now c.loop-i.i (omega arith) (cc (c.near.ensures, c.if-near.true))) ∙ c.loop-i.invariant

pub loop-i-preserved : goal.loop-i-preserved
loop-i-preserved c =
    let far = passable_every c.args.key (length c.args.table.now) in
    sym (seek_next (of_every_place Fits c.args.key) c.args.table.now c.loop-i.i (omega arith) (cc (c.near.ensures, c.if-near.false))) ∙ c.loop-i.invariant

pub returns : goal.returns
returns c =
    let far = passable_every c.args.key (length c.args.table.now) in
    let over = seek_over (of_every_place Fits c.args.key) c.args.table.now c.loop-i.i (omega arith) in
    omega (arith, over, c.loop-i.invariant)
