-- The entity is held, so that the facts have what stands there.
use Rattle.cedar_interpreter.proofs.Known.{tag_known}
use Rattle.cedar_interpreter.proofs.partial_stores.tag_of.Goals as goal

pub returns : goal.returns
returns c = λ facts has. tag_known c.args.entities.now _ c.in_ok-entity.entity.now c.in_ok-entity.ensures.held facts has c.as_str.result.now c.get_tag.result c.get_tag.ensures
