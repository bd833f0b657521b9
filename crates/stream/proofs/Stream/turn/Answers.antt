-- What the piece has done.
use Rattle.stream.proofs.Stream.turn.Goals as goal

pub returns-clause-turned : goal.returns-clause-turned
returns-clause-turned g c = c.in_ok-more.ensures.turned
