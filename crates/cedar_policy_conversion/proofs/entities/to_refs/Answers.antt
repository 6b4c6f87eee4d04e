-- The entities of a list are found first and then held to be actions; the entity that stands alone likewise.
use Rattle.std.proofs.Common.{◌≡◌, ◌⊎◌, inr, Some, [], ◌∷◌, map, sym, ap, ◌∙◌, subst}
use Rattle.std.specs.Prelude.{MatchOption}
use Rattle.cedar_grammar.specs.Steps.{◌>>=◌}
use Rattle.cedar_grammar.specs.Loose as loose
use Rattle.cedar_grammar.specs.Converting.{alone, each, actions_among}
use Rattle.cedar_cst.specs.View.{shown_expr}
use Rattle.cedar_faults.specs.Reasons.{reason}
use Rattle.cedar_faults.proofs.Telling.{handed_on, tells_more}
use Rattle.cedar_policy_conversion.specs.Entities.{entity, as_action, refs_of}
use Rattle.cedar_policy_conversion.specs.PartsShow.{no_actions_show, action_shows, entities_show, entities_of}
use Rattle.cedar_policy_conversion.proofs.Finding.{passed, through, early}
use Rattle.cedar_policy_conversion.proofs.Acting.{action_is, actions_are, entities_are, among_listed, among_alone}
use Rattle.cedar_policy_conversion.proofs.entities.to_refs.Goals as goal

pub returns-in_err-uids-in-Some-clause-actions : goal.returns-in_err-uids-in-Some-clause-actions
returns-in_err-uids-in-Some-clause-actions g c =
    let e = c.in_err-uids-in-Some.field-0.0 in
    let x = shown_expr c.args.node.now in
    let es = map shown_expr c.in-Some.items.now.items in
    let listed : actions_among x (alone x) ≡ (each entity es >>= each as_action) = among_listed x (alone x) (loose.exprs es) (sym c.in-Some.ensures) ∙ actions_are es in
    passed refs_of c.from_residual.result e _ c.from_residual.ensures
    (through (reason e) (each entity es) (actions_among x (alone x)) c.in_err-uids-in-Some.ensures.entities (λ h. listed ∙ early (each entity es) (each as_action) h))

pub returns-in_err-only_actions-in-Some-clause-actions : goal.returns-in_err-only_actions-in-Some-clause-actions
returns-in_err-only_actions-in-Some-clause-actions g c =
    let e = c.in_err-only_actions-in-Some.field-0.0 in
    let x = shown_expr c.args.node.now in
    let es = map shown_expr c.in-Some.items.now.items in
    let us = c.in_ok-uids-in-Some.uids.items in
    let listed : actions_among x (alone x) ≡ (each entity es >>= each as_action) = among_listed x (alone x) (loose.exprs es) (sym c.in-Some.ensures) ∙ actions_are es in
    passed refs_of c.from_residual-in_err-only_actions-in-Some.result e _ c.from_residual-in_err-only_actions-in-Some.ensures
    (through (reason e) (each as_action us) (actions_among x (alone x)) c.in_err-only_actions-in-Some.ensures.actions (λ h. listed ∙ ap (λ o. o >>= each as_action) c.in_ok-uids-in-Some.ensures.entities ∙ h))

pub returns-in_ok-only_actions-in-Some-clause-actions : goal.returns-in_ok-only_actions-in-Some-clause-actions
returns-in_ok-only_actions-in-Some-clause-actions g c =
    let x = shown_expr c.args.node.now in
    let es = map shown_expr c.in-Some.items.now.items in
    let listed : actions_among x (alone x) ≡ (each entity es >>= each as_action) = among_listed x (alone x) (loose.exprs es) (sym c.in-Some.ensures) ∙ actions_are es in
    listed ∙ ap (λ o. o >>= each as_action) c.in_ok-uids-in-Some.ensures.entities ∙ c.in_ok-only_actions-in-Some.ensures.actions

pub returns-in_err-uid-in-None-clause-actions : goal.returns-in_err-uid-in-None-clause-actions
returns-in_err-uid-in-None-clause-actions g c =
    let e = c.in_err-uid-in-None.field-0.0 in
    let x = shown_expr c.args.node.now in
    let one : actions_among x (alone x) ≡ ((entity x >>= as_action) >>= λ u. Some (u ∷ [])) = among_alone x (alone x) (sym c.in-None.ensures) ∙ ap (λ o. o >>= λ u. Some (u ∷ [])) (action_is x) in
    passed refs_of c.from_residual-in_err-uid-in-None.result e _ c.from_residual-in_err-uid-in-None.ensures
    (through (reason e) (entity x) (actions_among x (alone x)) c.in_err-uid-in-None.ensures.entity (λ h. one ∙ ap (λ o. (o >>= as_action) >>= λ u. Some (u ∷ [])) h))

pub returns-in_err-only_action-in-None-clause-actions : goal.returns-in_err-only_action-in-None-clause-actions
returns-in_err-only_action-in-None-clause-actions g c =
    let e = c.in_err-only_action-in-None.field-0.0 in
    let x = shown_expr c.args.node.now in
    let v = c.in_ok-uid-in-None.uid in
    let one : actions_among x (alone x) ≡ ((entity x >>= as_action) >>= λ u. Some (u ∷ [])) = among_alone x (alone x) (sym c.in-None.ensures) ∙ ap (λ o. o >>= λ u. Some (u ∷ [])) (action_is x) in
    passed refs_of c.from_residual-in_err-only_action-in-None.result e _ c.from_residual-in_err-only_action-in-None.ensures
    (through (reason e) (as_action v) (actions_among x (alone x)) c.in_err-only_action-in-None.ensures.action (λ h. one ∙ ap (λ o. (o >>= as_action) >>= λ u. Some (u ∷ [])) c.in_ok-uid-in-None.ensures.entity ∙ early (as_action v) (λ u. Some (u ∷ [])) h))

pub returns-in_ok-only_action-in-None-clause-actions : goal.returns-in_ok-only_action-in-None-clause-actions
returns-in_ok-only_action-in-None-clause-actions g c =
    let x = shown_expr c.args.node.now in
    let one : actions_among x (alone x) ≡ ((entity x >>= as_action) >>= λ u. Some (u ∷ [])) = among_alone x (alone x) (sym c.in-None.ensures) ∙ ap (λ o. o >>= λ u. Some (u ∷ [])) (action_is x) in
    one ∙ ap (λ o. (o >>= as_action) >>= λ u. Some (u ∷ [])) c.in_ok-uid-in-None.ensures.entity ∙ ap (λ o. o >>= λ u. Some (u ∷ [])) c.in_ok-only_action-in-None.ensures.action

pub returns-in_err-only_actions-in-Some-clause-shown : goal.returns-in_err-only_actions-in-Some-clause-shown
returns-in_err-only_actions-in-Some-clause-shown g c =
    let x = shown_expr c.args.node.now in
    let es = map shown_expr c.in-Some.items.now.items in
    handed_on c.from_residual-in_err-only_actions-in-Some.result _ _ c.from_residual-in_err-only_actions-in-Some.ensures
    (tells_more _ _ _ (λ k s. subst (λ o. MatchOption o (action_shows x k) (λ ds. entities_show ds k ⊎ no_actions_show (entities_of ds) k)) c.in-Some.ensures (inr (subst (λ o. no_actions_show o k) (sym (entities_are es ∙ c.in_ok-uids-in-Some.ensures.entities)) s))) c.in_err-only_actions-in-Some.ensures.shown)
