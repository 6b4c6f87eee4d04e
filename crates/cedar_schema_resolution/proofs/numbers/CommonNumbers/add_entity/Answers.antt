-- The name is the entity type's.
use Rattle.cedar_schema_resolution.specs.Declarations.{entity_view}
use Rattle.cedar_schema_resolution.proofs.Numbering.{none_put}
use Rattle.cedar_schema_resolution.proofs.numbers.CommonNumbers.add_entity.Goals as goal

pub returns : goal.returns
returns c = none_put (entity_view c.args.entity.now) c.in_ok-name.name c.args.self.now c.put.new.self c.in_ok-name.ensures c.in_ok-put.ensures
