-- It is the type of its entities.
use Rattle.std.proofs.Common.{◌≡◌, Some, rules, ap, ◌∙◌}
use Rattle.cedar_typing.specs.Types.{Entities}
use Rattle.cedar_schema_grammar.specs.Declared.{entity_name}
use Rattle.cedar_schema.specs.Types.{type_view}
use Rattle.cedar_schema.specs.declared.types.SchemaType.TheVariants as types
use Rattle.cedar_schema.proofs.TypeViews as views
use Rattle.cedar_schema_resolution.specs.Declarations.{entity_view}
use Rattle.cedar_schema_resolution.proofs.Putting.{put_one}
use Rattle.cedar_schema_resolution.proofs.table.put_entity.Goals as goal

pub returns-clause-put : goal.returns-clause-put
returns-clause-put c =
    let same : c.in_ok-copy.copy ≡ c.in_ok-name.name = search rules in
    put_one (entity_name (entity_view c.args.entity.now)) (λ n. Some (Entities n)) c.in_ok-copy.copy
    (Some (type_view (types.Entity c.in_ok-name.name))) c.args.table.now c.declare.new.self
    (same ∙ c.in_ok-name.ensures) (ap Some (views.entity_view c.in_ok-name.name) ∙ ap (λ m. Some (Entities m)) c.in_ok-name.ensures)
    c.in_ok-declare.ensures.declared
