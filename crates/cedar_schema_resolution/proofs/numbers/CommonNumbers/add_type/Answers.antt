-- The name is the common type's.
use Rattle.cedar_schema_resolution.specs.Declarations.{type_view}
use Rattle.cedar_schema_resolution.proofs.Numbering.{number_put}
use Rattle.cedar_schema_resolution.proofs.numbers.CommonNumbers.add_type.Goals as goal

pub returns : goal.returns
returns c = number_put (type_view c.args.common.now) c.args.number c.in_ok-name.name c.args.self.now c.put.new.self c.in_ok-name.ensures c.in_ok-put.ensures
