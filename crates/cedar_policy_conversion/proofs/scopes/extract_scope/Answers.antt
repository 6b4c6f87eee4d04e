-- A scope is found where its three parts are and no more stand there, and lacks where one of the four does.
use Rattle.std.proofs.Common.{map, drop, subst}
use Rattle.std.specs.Prelude.{IfErr}
use Rattle.cedar_grammar.specs.Token as token
use Rattle.cedar_grammar.specs.Policy.{Constraint}
use Rattle.cedar_grammar.specs.Steps.{◌>>=◌}
use Rattle.cedar_grammar.specs.Converting.{constraint, action_constraint}
use Rattle.cedar_cst.specs.View.{shown_variable_def}
use Rattle.cedar_policy_parts.specs.Actions.{action_of}
use Rattle.cedar_faults.specs.Converts.{Finds}
use Rattle.cedar_faults.specs.Telling.{TellsOnly}
use Rattle.cedar_faults.proofs.Telling.{handed_on}
use Rattle.cedar_policy_conversion.specs.Scopes.{no_more, scope_of}
use Rattle.cedar_policy_conversion.specs.PartsShow.{principal_shows, action_part_shows, resource_shows, extras_show}
use Rattle.cedar_policy_conversion.proofs.Finding.{passed}
use Rattle.cedar_policy_conversion.proofs.Parts.{scope_found, scope_lacks}
use Rattle.cedar_policy_conversion.proofs.Showing.{four_show}
use Rattle.cedar_policy_conversion.proofs.scopes.extract_scope.Goals as goal

pub returns-in_err-principal-clause-scope : goal.returns-in_err-principal-clause-scope
returns-in_err-principal-clause-scope g c =
    let e = c.in_err-principal.field-0.0 in
    passed scope_of c.from_residual.result e _ c.from_residual.ensures
    (scope_lacks (map shown_variable_def c.args.defs.now.items) c.to_principal-principal.result c.to_action-action.result c.to_resource-resource.result c.no_more-only.result e
    (subst (λ o. Finds (λ (x : Constraint). x) c.to_principal-principal.result (o >>= constraint token.Principal)) c.part-first.ensures c.to_principal-principal.ensures.constraint)
    (subst (λ o. Finds action_of c.to_action-action.result (o >>= action_constraint)) c.part-second.ensures c.to_action-action.ensures.constraint)
    (subst (λ o. Finds (λ (x : Constraint). x) c.to_resource-resource.result (o >>= constraint token.Resource)) c.part-third.ensures c.to_resource-resource.ensures.constraint)
    (subst (λ xs. Finds (λ (u : Unit). u) c.no_more-only.result (no_more (map shown_variable_def xs))) c.deref.ensures.value c.no_more-only.ensures.none) c.in_err-principal.ensures)

pub returns-clause-scope : goal.returns-clause-scope
returns-clause-scope g c =
    scope_found (map shown_variable_def c.args.defs.now.items) c.to_principal-principal.result c.to_action-action.result c.to_resource-resource.result c.no_more-only.result
    (c.in_ok-principal.principal, c.in_ok-principal.action, c.in_ok-principal.resource, tt)
    (subst (λ o. Finds (λ (x : Constraint). x) c.to_principal-principal.result (o >>= constraint token.Principal)) c.part-first.ensures c.to_principal-principal.ensures.constraint)
    (subst (λ o. Finds action_of c.to_action-action.result (o >>= action_constraint)) c.part-second.ensures c.to_action-action.ensures.constraint)
    (subst (λ o. Finds (λ (x : Constraint). x) c.to_resource-resource.result (o >>= constraint token.Resource)) c.part-third.ensures c.to_resource-resource.ensures.constraint)
    (subst (λ xs. Finds (λ (u : Unit). u) c.no_more-only.result (no_more (map shown_variable_def xs))) c.deref.ensures.value c.no_more-only.ensures.none) c.in_ok-principal.ensures

pub returns-in_err-principal-clause-shown : goal.returns-in_err-principal-clause-shown
returns-in_err-principal-clause-shown g c =
    handed_on c.from_residual.result _ _ c.from_residual.ensures
    (four_show c.to_principal-principal.result c.to_action-action.result c.to_resource-resource.result c.no_more-only.result _ _ _ _ _ c.in_err-principal.ensures
    (subst (λ o. IfErr c.to_principal-principal.result (λ e. TellsOnly e (principal_shows o))) c.part-first.ensures c.to_principal-principal.ensures.shown)
    (subst (λ o. IfErr c.to_action-action.result (λ e. TellsOnly e (action_part_shows o))) c.part-second.ensures c.to_action-action.ensures.shown)
    (subst (λ o. IfErr c.to_resource-resource.result (λ e. TellsOnly e (resource_shows o))) c.part-third.ensures c.to_resource-resource.ensures.shown)
    (subst (λ xs. IfErr c.no_more-only.result (λ e. TellsOnly e (extras_show (drop 3 (map shown_variable_def xs))))) c.deref.ensures.value c.no_more-only.ensures.shown))
