-- Turn by turn a frame is one more command of the session, and one of which no command came leaves the world.
use Rattle.cedar_world.proofs.RunSession.{runs_by_the_rules}
use Rattle.cedar_world.proofs.runs_are_answered_by_the_rules.Goals as goal

pub returns : goal.returns
returns c = runs_by_the_rules
