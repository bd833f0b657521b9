-- What the read has put behind the octets that are kept.
use Rattle.std.proofs.Common.{arith, refl}
use Rattle.pieces.proofs.Laws.{fills_read}
use Rattle.pieces.proofs.fill.Goals as goal

pub returns-in-Ok-clause-filled : goal.returns-in-Ok-clause-filled
returns-in-Ok-clause-filled g c = fills_read c.args.buf.now _ c.args.kept c.min-at.result (omega arith) c.in-Ok.n _ c.read.new.buf _ refl (omega (arith, c.in-Ok.ensures.bound)) refl
