-- One turn more, and the text of its page behind those before it.
use Rattle.std.specs.Prelude.{[], ◌++◌}
use Rattle.std.proofs.KnownBytes.{Appends-nil, Appends-trans}
use Rattle.stream.specs.Stands.{none, one_more, text_of}
use Rattle.stream.proofs.Stream.pieces.Goals as goal

pub loop-init : goal.loop-init
loop-init g c = record { stands = λ b st. st; told = ([], (none, Appends-nil _)) }

pub loop-preserved : goal.loop-preserved
loop-preserved g c =
    let (text, (turns, appended)) = c.loop.invariant.told in
    record {
      stands = λ b st. c.in_ok-turn.ensures.stands b (c.loop.invariant.stands b st);
      told = (text ++ text_of c.turn.new.self.page, (one_more turns c.in_ok-turn.ensures.turned, Appends-trans _ _ _ _ _ appended c.in_ok-turn.ensures.told));
    }

pub returns-then-not-branch-clause-told : goal.returns-then-not-branch-clause-told
returns-then-not-branch-clause-told g c =
    let (text, (turns, appended)) = c.loop.invariant.told in
    (text ++ text_of c.turn.new.self.page, (one_more turns c.in_ok-turn.ensures.turned, Appends-trans _ _ _ _ _ appended c.in_ok-turn.ensures.told))
