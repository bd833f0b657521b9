-- Nothing is taken where the read fails or gives nothing; else the run takes the stream on, from the front of an empty page.
use Rattle.std.proofs.Common.{ap, ◌∙◌, refl, arith, rules}
use Rattle.pieces.specs.Meaning.{Kept}
use Rattle.pieces.proofs.Laws.{waiting_at_most}
use Rattle.run.specs.Meaning.{piece_run_of}
use Rattle.stream.proofs.Laws.{stands_still, stands_filled, stands_on, turns_on}
use Rattle.stream.proofs.Stream.piece.Goals as goal

pub returns-in_err-end-clause-stands : goal.returns-in_err-end-clause-stands
returns-in_err-end-clause-stands g c b st = stands_still b c.args.self.now _ _ c.fill.new.buf st _ c.fill.auto.buf c.in_err-end.ensures.filled

pub returns-then-end-self-clause-stands : goal.returns-then-end-self-clause-stands
returns-then-end-self-clause-stands g c b st = stands_filled b c.args.self.now _ _ c.fill.new.buf st _ c.in_ok-end.ensures.filled _ c.fill.auto.buf

-- what is taken is what does not wait
pub overflow_sub-self : goal.overflow_sub-self
overflow_sub-self g c = rw (ap (λ (k : Kept). k.waiting) c.keep-left.ensures) (waiting_at_most _ _ _)

pub returns-clause-stands : goal.returns-clause-stands
returns-clause-stands g c b st =
    stands_on b c.args.self.now _ _ c.fill.new.buf st _ c.in_ok-end.ensures.filled (omega arith) _ _ _ _ _ _ (c.run-p.ensures ∙ ap (piece_run_of _ _ _ _) c.again-from.ensures) _ _ c.keep-left.ensures _ refl

pub returns-clause-turned : goal.returns-clause-turned
returns-clause-turned g c =
    turns_on c.args.self.now _ _ c.fill.new.buf _ c.in_ok-end.ensures.filled (omega arith) _ c.args.self.now.page.octets (search rules) _ _ _ _ _ (c.run-p.ensures ∙ ap (piece_run_of _ _ _ _) c.again-from.ensures) _ _ c.keep-left.ensures _
