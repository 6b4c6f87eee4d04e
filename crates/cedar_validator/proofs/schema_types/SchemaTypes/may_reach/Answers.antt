-- The names are the same in both forms.
use Rattle.std.proofs.Common.{◌≡◌, Option, subst}
use Rattle.std.specs.Prelude.{IfOk}
use Rattle.cedar_language.specs.Uid.{Name, Uid}
use Rattle.cedar_typing.specs.Schema.{Signature}
use Rattle.cedar_validator_schema.specs.Views.{schema_view}
use Rattle.cedar_validator.proofs.schema_types.SchemaTypes.may_reach.Goals as goal

pub returns : goal.returns
returns c =
    let v = c.args.self.now.schema in
    let Tells = λ (x y : Name). IfOk c.may_reach.result (λ b. (s : Name → Option Signature) → b ≡ (schema_view s v).may_reach x y) in
    subst (λ (x : Name). Tells x c.args.to.now) c.in_ok-from.ensures (subst (λ (y : Name). Tells c.in_ok-from.from y) c.in_ok-to.ensures c.may_reach.ensures)
