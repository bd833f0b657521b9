-- A record uses some octets of the piece, and no more than are left (`used_within`).
use Rattle.std.proofs.Common.{◌∙◌, sym, arith}
use Rattle.records.proofs.Piece.{used_within}
use Rattle.records.proofs.Printer.print_piece.Goals as goal

pub overflow_add-at : goal.overflow_add-at
overflow_add-at g c =
    let u = used_within c.args.piece.now c.loop-at.at c.loop-at.self.started c.in-Ok.r c.in-Ok.used (sym c.read.ensures ∙ c.in-Ok.is) in
    omega arith

pub loop-at-smaller : goal.loop-at-smaller
loop-at-smaller g c =
    let u = used_within c.args.piece.now c.loop-at.at c.loop-at.self.started c.in-Ok.r c.in-Ok.used (sym c.read.ensures ∙ c.in-Ok.is) in
    omega arith

pub loop-at-preserved : goal.loop-at-preserved
loop-at-preserved g c =
    let u = used_within c.args.piece.now c.loop-at.at c.loop-at.self.started c.in-Ok.r c.in-Ok.used (sym c.read.ensures ∙ c.in-Ok.is) in
    omega arith
