-- The schema has these entity types and actions.
use Rattle.std.proofs.Common.{◌≡◌, ◌∙◌, ap}
use Rattle.cedar_typing.specs.Types.{no_fields}
use Rattle.cedar_typechecker.specs.Types.{fields_view}
use Rattle.cedar_validator.specs.SchemaTypes.{shape_at, action_at}
use Rattle.cedar_validator.proofs.Viewed.{same_parts}
use Rattle.cedar_validator.proofs.schema_types.SchemaTypes.new.Goals as goal

pub returns-clause-ok : goal.returns-clause-ok
returns-clause-ok c = λ s.
    let none = fields_view c.in_ok-no_context.no_context.value.items in
    let empty : none ≡ no_fields = ap (λ v. fields_view v.items) c.in_ok-no_context.ensures.ok ∙ ap fields_view c.new.ensures.items in
    same_parts s c.args.schema (shape_at c.in_ok-shapes.shapes) (action_at c.in_ok-actions.actions) none c.in_ok-shapes.ensures.ok
    c.in_ok-actions.ensures.ok empty
