-- `text::Page::put_report` meets its contract. Assumes nothing.
use Rattle.std.proofs.Common.{arith}
use Rattle.text.proofs.Laws.{written_then, up_last}
use Rattle.text.specs.Meaning.{report_of}
use Rattle.text.proofs.Page.put_report.Goals as goal

pub returns : goal.returns
unfolding report_of
returns g c =
    written_then _ _ _ _ _
    (written_then _ _ _ _ _
    (written_then _ _ _ _ _ (up_last _ _ _ _ _ (omega arith) (omega arith) c.loop-filter.invariant) (up_last _ _ _ _ _ (omega arith) (omega arith) c.loop-gate.invariant))
    (up_last _ _ _ _ _ (omega arith) (omega arith) c.loop-meter.invariant))
    (up_last _ _ _ _ _ (omega arith) (omega arith) c.loop-port.invariant)
