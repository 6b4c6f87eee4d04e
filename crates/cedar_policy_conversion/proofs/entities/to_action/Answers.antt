-- An action is an entity that stands alone, and then is held to be one.
use Rattle.std.proofs.Common.{ap, ◌∙◌}
use Rattle.cedar_language.specs.Uid.{Uid}
use Rattle.cedar_grammar.specs.Steps.{◌>>=◌}
use Rattle.cedar_grammar.specs.Converting.{action}
use Rattle.cedar_cst.specs.View.{shown_expr}
use Rattle.cedar_faults.specs.Reasons.{reason}
use Rattle.cedar_policy_conversion.specs.Entities.{entity, as_action}
use Rattle.cedar_policy_conversion.proofs.Finding.{passed, through, early, same_as}
use Rattle.cedar_policy_conversion.proofs.Acting.{action_is}
use Rattle.cedar_policy_conversion.proofs.entities.to_action.Goals as goal

pub returns-in_err-uid-clause-action : goal.returns-in_err-uid-clause-action
returns-in_err-uid-clause-action g c =
    let e = c.in_err-uid.field-0.0 in
    let x = shown_expr c.args.node.now in
    passed (λ (u : Uid). u) c.from_residual.result e _ c.from_residual.ensures
    (through (reason e) (entity x) (action x) c.in_err-uid.ensures.entity (λ h. action_is x ∙ early (entity x) as_action h))

pub returns-clause-action : goal.returns-clause-action
returns-clause-action g c =
    let x = shown_expr c.args.node.now in
    same_as (λ (u : Uid). u) c.only_action.result (as_action c.in_ok-uid.uid) (action x) (action_is x ∙ ap (λ o. o >>= as_action) c.in_ok-uid.ensures.entity) c.only_action.ensures.action
