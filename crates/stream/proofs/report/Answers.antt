-- The end stays as it was; or a write that has failed is said.
use Rattle.std.proofs.Common.{Some, sym, subst, ◌∙◌}
use Rattle.pieces.specs.declared.Failure.{Failure}
use Rattle.stream.specs.Meaning.{Reported, as_it_was, unwritten}
use Rattle.stream.proofs.Laws.{none_by}
use Rattle.stream.proofs.report.Goals as goal

pub returns-then-is_some : goal.returns-then-is_some
returns-then-is_some g c = as_it_was

pub returns-in-Ok : goal.returns-in-Ok
returns-in-Ok g c = as_it_was

pub returns-in-Err : goal.returns-in-Err
returns-in-Err g c =
    subst (λ (f : Failure). Reported c.args.d (record { failure = Some f; refusal = c.args.d.refusal; records = c.args.d.records; octets = c.args.d.octets })) (sym c.in-Err.ensures.unwritten)
    (unwritten (none_by c.args.d.failure (sym c.is_some.ensures ∙ c.if-is_some.false)))
