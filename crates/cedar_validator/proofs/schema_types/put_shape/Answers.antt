-- What is told of the name is told of it and its shape.
use Rattle.std.proofs.Common.{◌||◌}
use Rattle.cedar_language.specs.Order.{same_name}
use Rattle.cedar_schema_resolution.specs.Shapes.{shape_view}
use Rattle.cedar_validator.specs.Converting.{TellsName}
use Rattle.cedar_validator.specs.SchemaTypes.{shape_names}
use Rattle.cedar_validator.proofs.Converted.{name_told}
use Rattle.cedar_validator.proofs.Told.{handed, told_wider, or_first}
use Rattle.cedar_validator.proofs.schema_types.put_shape.Goals as goal

pub returns-in_err-entity_type-clause-err : goal.returns-in_err-entity_type-clause-err
returns-in_err-entity_type-clause-err c =
    let k = c.args.name.now in
    let s = shape_view c.args.shape.now in
    let e = c.in_err-entity_type.field-0.0 in
    handed _ (TellsName (λ n. same_name k n || shape_names s n)) c.from_residual.result e c.from_residual.ensures
    (told_wider (same_name k) (λ n. same_name k n || shape_names s n) e (λ n h. or_first (same_name k n) (shape_names s n) h)
    (name_told k e c.in_err-entity_type.ensures))
