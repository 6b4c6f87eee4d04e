-- Command by command: both stores are edited, links stay whole and no cycle comes; a step says what its answer is.
use Rattle.cedar_world.proofs.Session.{by_the_rules, parts}
use Rattle.cedar_world.proofs.commands_are_answered_by_the_rules.Goals as goal

pub returns : goal.returns
returns c = record { rules = by_the_rules; parts = parts }
