-- What has been copied to the front is what is kept.
use Rattle.pieces.proofs.Laws.{copied}
use Rattle.pieces.proofs.keep.Goals as goal

pub returns : goal.returns
returns c = copied c.args.buf.now c.args.from c.args.end c.min-at.result c.min-to.result c.min-at.ensures c.min-to.ensures _ c.copy_within.ensures.after
