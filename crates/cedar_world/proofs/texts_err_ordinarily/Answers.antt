-- Each function that a text calls is found, no slot is left once a policy is linked, and operators err with neither kind.
use Rattle.cedar_world.proofs.Lookups.{texts_err_ordinarily as law}
use Rattle.cedar_world.proofs.texts_err_ordinarily.Goals as goal

pub returns : goal.returns
returns c = law c.known_is_meaning.ensures c.link_laws.ensures.static c.linking_binds_the_condition.ensures c.calls_are_found.ensures
