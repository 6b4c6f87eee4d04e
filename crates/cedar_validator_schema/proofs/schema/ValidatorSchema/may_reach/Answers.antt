-- The walk finds what edges lead to.
use Rattle.std.proofs.Common.{◌≡◌, IsTrue}
use Rattle.std.specs.Prelude.{◌↔◌, Option}
use Rattle.std.proofs.lemmas.Result.{IfOk-weaker}
use Rattle.cedar_language.specs.Uid.{Name}
use Rattle.cedar_language.specs.Facts.{Reaches}
use Rattle.cedar_language.specs.Order.{same_name, name_cmp}
use Rattle.cedar_typing.specs.Schema.{Signature}
use Rattle.cedar_typing.proofs.Sameness.{name_is}
use Rattle.cedar_validator_schema.specs.Hierarchies.{Leads}
use Rattle.cedar_validator_schema.specs.Views.{schema_view}
use Rattle.cedar_validator_schema.proofs.Viewing.{walk_is, names_exact}
use Rattle.cedar_validator_schema.proofs.schema.ValidatorSchema.may_reach.Goals as goal

pub reaches-requires : goal.reaches-requires
reaches-requires c = record { same = name_is; copies = λ x y e. e }

pub returns : goal.returns
returns c =
    let h = c.args.self.now.entity_types.parents in
    IfOk-weaker c.reaches.result (λ b. IsTrue b ↔ Reaches (Leads same_name name_cmp h) c.args.from.now c.args.to.now)
    (λ b. (s : Name → Option Signature) → b ≡ (schema_view s c.args.self.now).may_reach c.args.from.now c.args.to.now)
    (λ b is s. walk_is same_name name_cmp names_exact h b c.args.from.now c.args.to.now is)
    c.reaches.ensures
