-- What is bound is held in the world.
use Rattle.std.proofs.Common.{◌∙◌}
use Rattle.cedar_named_sessions.proofs.Given.{bound_in}
use Rattle.cedar_named_sessions.proofs.placing.is_bound.Goals as goal

pub returns : goal.returns
returns c = c.is_bound.ensures ∙ bound_in c.policy_sets_are_worlds.ensures.finds c.args.held.now c.args.id.now
