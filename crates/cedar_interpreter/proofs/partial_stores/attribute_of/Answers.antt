-- The entity is held, so that the facts have what stands there.
use Rattle.cedar_interpreter.proofs.Known.{attribute_known}
use Rattle.cedar_interpreter.proofs.partial_stores.attribute_of.Goals as goal

pub returns : goal.returns
returns c = λ facts has. attribute_known c.args.entities.now _ c.in_ok-entity.entity.now c.in_ok-entity.ensures.held facts has c.args.attr.now c.get-2.result c.get-2.ensures
