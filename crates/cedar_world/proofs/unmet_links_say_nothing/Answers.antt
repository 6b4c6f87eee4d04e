-- In the world with the link the same is in force as in the one with the policy that it writes.
use Rattle.cedar_world.proofs.UnmetScopes.{unmet_links_say_nothing}
use Rattle.cedar_world.proofs.unmet_links_say_nothing.Goals as goal

pub returns : goal.returns
returns c = unmet_links_say_nothing c.link_laws.ensures c.unmet_scopes_say_nothing.ensures
