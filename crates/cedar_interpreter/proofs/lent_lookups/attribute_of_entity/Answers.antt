-- The entity that is found is what the store holds.
use Rattle.cedar_interpreter.proofs.lent_lookups.attribute_of_entity.Goals as goal

pub returns : goal.returns
returns c = λ facts has. c.attribute_of_held.ensures c.args.entities.now facts c.args.uid.now has c.in_ok-entity.ensures.held.0
