-- What the schema has of a type, it has whatever the extension functions are.
use Rattle.std.proofs.Common.{◌∙◌, sym, ap, Option, None, Bor}
use Rattle.std.specs.Prelude.{is_some}
use Rattle.cedar_language.specs.Uid.{Name}
use Rattle.cedar_typing.specs.Schema.{Signature}
use Rattle.cedar_schema_resolution.specs.Shapes.{shape_view}
use Rattle.cedar_schema_resolution.specs.declared.shapes.EntityShape.{EntityShape}
use Rattle.cedar_validator_schema.specs.Views.{shape_in}
use Rattle.cedar_conformance.proofs.Told.{some_kept}
use Rattle.cedar_conformance.proofs.requests.CoreSchema.is_declared.Goals as goal

pub returns : goal.returns
returns c =
    let none : Name → Option Signature = λ n. None in
    c.is_some.ensures
    ∙ sym (some_kept (λ (s : Bor EntityShape). shape_view s.now) c.entity_type.result)
    ∙ ap is_some (c.entity_type.ensures none)
    ∙ ap (λ (n : Name). is_some (shape_in c.args.self.now.schema.now n)) c.in_ok-name.ensures
