-- A turn is one record of the run that is left, and a run with no turn left is over.
use Rattle.std.proofs.Common.{◌∙◌, ap, arith}
use Rattle.std.proofs.lemmas.Bool.{not-true, not-false}
use Rattle.stage.specs.Meaning.{take_of}
use Rattle.run.proofs.Cases.{run_over, run_on, run_stops}
use Rattle.run.proofs.run.Goals as goal

pub returns-then-not-p : goal.returns-then-not-p
returns-then-not-p g c =
    run_stops c.args.input.now _ _ _ _ _ _ _ (c.take-answer.ensures ∙ ap (take_of _) c.rest.ensures) c.tell-p.ensures _ (omega arith) (not-true _ c.if-not-p.true) ∙ c.loop.invariant

pub loop-preserved : goal.loop-preserved
loop-preserved g c =
    run_on c.args.input.now _ _ _ _ _ _ _ (c.take-answer.ensures ∙ ap (take_of _) c.rest.ensures) c.tell-p.ensures _ _ (omega arith) (omega arith) (not-false _ c.if-not-p.false) ∙ c.loop.invariant

pub returns : goal.returns
returns g c = run_over _ _ _ _ _ (omega arith) ∙ c.loop.invariant
