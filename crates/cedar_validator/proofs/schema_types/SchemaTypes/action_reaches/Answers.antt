-- The names are the same in both forms.
use Rattle.std.proofs.Common.{◌≡◌, Option, subst}
use Rattle.std.specs.Prelude.{IfOk}
use Rattle.cedar_language.specs.Uid.{Name, Uid}
use Rattle.cedar_typing.specs.Schema.{Signature}
use Rattle.cedar_validator_schema.specs.Views.{schema_view}
use Rattle.cedar_validator.proofs.schema_types.SchemaTypes.action_reaches.Goals as goal

pub returns : goal.returns
returns c =
    let v = c.args.self.now.schema in
    let Tells = λ (x y : Uid). IfOk c.action_reaches.result (λ b. (s : Name → Option Signature) → b ≡ (schema_view s v).action_reaches x y) in
    subst (λ (x : Uid). Tells x c.args.group.now) c.in_ok-action.ensures (subst (λ (y : Uid). Tells c.in_ok-action.action y) c.in_ok-group.ensures c.action_reaches.ensures)
