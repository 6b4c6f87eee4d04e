-- An entity that isn't of a declared type may be an action.
use Rattle.std.proofs.Common.{◌≡◌, ◌||◌, false, sym, ap, ◌∙◌}
use Rattle.std.specs.Prelude.{is_some}
use Rattle.cedar_validator_schema.specs.EntityTypes.{ids_at}
use Rattle.cedar_validator_schema.specs.Actions.{application_at}
use Rattle.cedar_validator_schema.proofs.schema.ValidatorSchema.may_name.Goals as goal

pub returns-else-may_have : goal.returns-else-may_have
returns-else-may_have c =
    let types = c.args.self.now.entity_types in
    let known : ids_at types c.args.uid.now.type_name c.args.uid.now.id ≡ false
    = ap (λ n. ids_at types n c.args.uid.now.id) (sym c.type_name.ensures) ∙ ap (ids_at types c.type_name.result.now) (sym c.id.ensures)
    ∙ sym c.may_have.ensures ∙ c.if-may_have.false in
    λ s. c.is_action.ensures s ∙ ap (λ b. b || is_some (application_at c.args.self.now.actions c.args.uid.now)) (sym known)
