-- What is found says whether there is one.
use Rattle.std.proofs.Common.{Bor, None, sym, ap, ◌∙◌}
use Rattle.std.specs.Prelude.{is_some}
use Rattle.cedar_schema_resolution.specs.Shapes.{shape_view}
use Rattle.cedar_schema_resolution.specs.declared.shapes.EntityShape.{EntityShape}
use Rattle.cedar_validator_schema.proofs.Cases.{some_map}
use Rattle.cedar_validator_schema.proofs.schema.ValidatorSchema.has_shape.Goals as goal

pub returns : goal.returns
returns c =
    c.is_some.ensures ∙ sym (some_map (λ (shape : Bor EntityShape). shape_view shape.now) c.entity_type.result)
    ∙ ap is_some (c.entity_type.ensures (λ n. None))
