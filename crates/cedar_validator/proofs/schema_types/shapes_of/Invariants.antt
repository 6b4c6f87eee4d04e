-- The shapes of the types passed are put.
use Rattle.std.proofs.Common.{◌≡◌, map, take}
use Rattle.std.specs.Map.Iter.{deref}
use Rattle.cedar_language.specs.Uid.{Name}
use Rattle.cedar_language.specs.Order.{same_name}
use Rattle.cedar_validator_schema.specs.Views.{shape_in}
use Rattle.cedar_validator.specs.SchemaTypes.{shape_at}
use Rattle.cedar_validator.proofs.Filled.{so_far}
use Rattle.cedar_validator.proofs.schema_types.shapes_of.Given as goal

abbrev pub invariant-loop-name : goal.invariant-loop-name
invariant-loop-name l = (n : Name) → shape_at l.shapes n ≡ so_far same_name (shape_in l.schema) (map deref (take l.name-index l.name-items)) n
