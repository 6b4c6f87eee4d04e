-- The scope settles to false by the parts that are given, and so does the whole condition.
use Rattle.cedar_world.proofs.UnmetScopes.{unmet_scopes_say_nothing}
use Rattle.cedar_world.proofs.unmet_scopes_say_nothing.Goals as goal

pub returns : goal.returns
returns c = unmet_scopes_say_nothing c.meaning_is_settled.ensures c.worlds_have_facts.ensures
