-- The shape that is written is that of the body.
use Rattle.std.proofs.Common.{IfOk, option_map, sym, subst}
use Rattle.cedar_language.specs.Uid.{Name}
use Rattle.cedar_schema_grammar.specs.Declared.{shaped}
use Rattle.cedar_schema_syntax.specs.View as syntax
use Rattle.cedar_schema_resolution.specs.Declarations.{body_view}
use Rattle.cedar_schema_resolution.specs.Shapes.{shape_view, IsShapeOf}
use Rattle.cedar_schema_resolution.specs.declared.declarations.EntityBody.{EntityBody}
use Rattle.cedar_schema_resolution.proofs.declarations.DeclaredEntity.shape.Goals as goal

pub returns-in-Shaped : goal.returns-in-Shaped
returns-in-Shaped c =
    subst (λ (b : EntityBody). IfOk c.written_shape.result
    (λ o. IsShapeOf c.args.table.now c.args.self.now.namespace (body_view b) (option_map shape_view o))) (sym c.in-Shaped.is)
    (subst (λ (n : Name). IfOk c.written_shape.result
    (λ o. IsShapeOf c.args.table.now n (shaped (syntax.entity_view c.in-Shaped.written.now)) (option_map shape_view o))) c.words.ensures
    c.written_shape.ensures)
