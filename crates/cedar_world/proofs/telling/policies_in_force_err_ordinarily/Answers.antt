-- What is in force is of texts, or a link of what is, and holds no slot.
use Rattle.cedar_world.proofs.FoundInForce.{policies_in_force_err_ordinarily as law}
use Rattle.cedar_world.proofs.telling.policies_in_force_err_ordinarily.Goals as goal

pub returns : goal.returns
returns c = law c.linking_binds_the_condition.ensures c.slots_stand_in_policies.ensures c.link_laws.ensures.static c.calls_are_found.ensures
