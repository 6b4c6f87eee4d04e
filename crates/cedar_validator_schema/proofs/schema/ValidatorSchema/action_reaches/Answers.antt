-- The walk finds what edges lead to.
use Rattle.std.proofs.Common.{◌≡◌, IsTrue}
use Rattle.std.specs.Prelude.{◌↔◌, Option}
use Rattle.std.proofs.lemmas.Result.{IfOk-weaker}
use Rattle.cedar_language.specs.Uid.{Name}
use Rattle.cedar_language.specs.Facts.{Reaches}
use Rattle.cedar_language.specs.Order.{same_uid, uid_cmp}
use Rattle.cedar_typing.specs.Schema.{Signature}
use Rattle.cedar_typing.proofs.Sameness.{uid_is}
use Rattle.cedar_validator_schema.specs.Hierarchies.{Leads}
use Rattle.cedar_validator_schema.specs.Views.{schema_view}
use Rattle.cedar_validator_schema.proofs.Viewing.{walk_is, uids_exact}
use Rattle.cedar_validator_schema.proofs.schema.ValidatorSchema.action_reaches.Goals as goal

pub reaches-requires : goal.reaches-requires
reaches-requires c = record { same = uid_is; copies = λ x y e. e }

pub returns : goal.returns
returns c =
    let h = c.args.self.now.actions.groups in
    IfOk-weaker c.reaches.result (λ b. IsTrue b ↔ Reaches (Leads same_uid uid_cmp h) c.args.action.now c.args.group.now)
    (λ b. (s : Name → Option Signature) → b ≡ (schema_view s c.args.self.now).action_reaches c.args.action.now c.args.group.now)
    (λ b is s. walk_is same_uid uid_cmp uids_exact h b c.args.action.now c.args.group.now is)
    c.reaches.ensures
