-- What a part asks of the action, by its variable; a name behind `:`, or a type, leaves nothing to ask.
use Rattle.std.proofs.Common.{◌≡◌, ◌⊎◌, inl, inr, Some, refl, sym, ap, ◌∙◌, subst}
use Rattle.std.specs.Prelude.{◌≢◌}
use Rattle.cedar_language.specs.Tree as tree
use Rattle.cedar_grammar.specs.Steps.{◌>>=◌}
use Rattle.cedar_grammar.specs.Loose as loose
use Rattle.cedar_cst.specs.LeafView.{shown_ident}
use Rattle.cedar_cst.specs.View.{view_variable_def}
use Rattle.cedar_cst.proofs.Views.{seen}
use Rattle.cedar_literals.specs.Variables.{variable_of}
use Rattle.cedar_literals.specs.declared.variables.Var.{Var}
use Rattle.cedar_literals.specs.declared.variables.Var.TheVariants as var
use Rattle.cedar_policy_parts.specs.Actions.{action_of}
use Rattle.cedar_faults.specs.Reasons.{reason}
use Rattle.cedar_faults.specs.Telling.{TellsOnly}
use Rattle.cedar_conversion.specs.Words.{ident_variable}
use Rattle.cedar_faults.proofs.Telling.{tells_one}
use Rattle.cedar_policy_conversion.specs.Own.{asked_of, without}
use Rattle.cedar_policy_conversion.specs.PartsShow.{action_constraint_shows}
use Rattle.cedar_policy_conversion.proofs.Finding.{passed, through, nothing, same_as}
use Rattle.cedar_policy_conversion.proofs.Owning.{asked_some}
use Rattle.cedar_policy_conversion.proofs.Asking.{action_own, action_not, no_action, named_action, typed_action}
use Rattle.cedar_policy_conversion.proofs.actions.to_action_constraint.Goals as goal

pub returns-in_err-got-clause-constraint : goal.returns-in_err-got-clause-constraint
returns-in_err-got-clause-constraint g c =
    let d = c.in-Some.def in
    let e = c.in_err-got.field-0.0 in
    passed action_of c.from_residual.result e _ c.from_residual.ensures
    (through (reason e) (ident_variable (shown_ident d.variable) >>= asked_of) _ c.in_err-got.ensures.variable (no_action c.args.node.now d c.in-Some.is))

pub returns-in_err-no_type_name-clause-constraint : goal.returns-in_err-no_type_name-clause-constraint
returns-in_err-no_type_name-clause-constraint g c =
    let d = c.in-Some.def in
    let e = c.in_err-no_type_name.field-0.0 in
    passed action_of c.from_residual-in_err-no_type_name.result e _ c.from_residual-in_err-no_type_name.ensures
    (through (reason e) (without d.unused_type_name) _ c.in_err-no_type_name.ensures.absent (named_action c.args.node.now d c.in-Some.is))

is_another : (v : Var) → (v ≡ var.Principal) ⊎ ((v ≡ var.Resource) ⊎ (v ≡ var.Context)) → variable_of v ≡ tree.Action → ⊥
is_another v (inl e) h = let same : tree.Principal ≡ tree.Action = ap variable_of (sym e) ∙ h in cc
is_another v (inr (inl e)) h = let same : tree.Resource ≡ tree.Action = ap variable_of (sym e) ∙ h in cc
is_another v (inr (inr e)) h = let same : tree.Context ≡ tree.Action = ap variable_of (sym e) ∙ h in cc

pub returns-in-Principal-clause-constraint : goal.returns-in-Principal-clause-constraint
returns-in-Principal-clause-constraint g c =
    let d = c.in-Some.def in
    let o = ident_variable (shown_ident d.variable) in
    let is : o ≡ Some (variable_of c.in_ok-got.got) = asked_some o (variable_of c.in_ok-got.got) c.in_ok-got.ensures.variable in
    let other : o ≡ Some tree.Action → ⊥ = λ h. (let same : variable_of c.in_ok-got.got ≡ tree.Action = cc (is, h) in is_another c.in_ok-got.got c.in-Principal.is same) in
    nothing c.fault.result _ c.fault.ensures.fault (action_not c.args.node.now d c.in-Some.is other)

pub returns-in-None-clause-constraint : goal.returns-in-None-clause-constraint
returns-in-None-clause-constraint g c =
    let d = c.in-Some.def in
    let o = ident_variable (shown_ident d.variable) in
    let is : o ≡ Some tree.Action = asked_some o (variable_of c.in_ok-got.got) c.in_ok-got.ensures.variable ∙ ap (λ v. Some (variable_of v)) c.in-Action.is in
    same_as action_of c.to_asked.result _ _ (action_own c.args.node.now d c.in-Some.is is c.in_ok-no_type_name.ensures.absent c.in-None.is) c.to_asked.ensures.constraint

pub returns-in-Some-entity_type-clause-constraint : goal.returns-in-Some-entity_type-clause-constraint
returns-in-Some-entity_type-clause-constraint g c =
    let d = c.in-Some.def in
    nothing c.fault-in-Some-entity_type.result _ c.fault-in-Some-entity_type.ensures.fault
    (typed_action c.args.node.now d c.in-Some.is (ap without c.in-Some-entity_type.is))

pub returns-in-Principal-clause-shown : goal.returns-in-Principal-clause-shown
returns-in-Principal-clause-shown g c =
    let d = c.in-Some.def in
    let v = c.in_ok-got.got in
    let is : ident_variable (shown_ident d.variable) ≡ Some (variable_of v) = asked_some (ident_variable (shown_ident d.variable)) (variable_of v) c.in_ok-got.ensures.variable in
    let differ : var.Action ≢ v = λ e. is_another v c.in-Principal.is (ap variable_of (sym e)) in
    subst (λ x. TellsOnly c.fault.result (action_constraint_shows x)) (sym (seen loose.missing_variable_def view_variable_def c.args.node.now d c.in-Some.is)) (tells_one _ _ _ _ c.fault.ensures.kind (inr (inr (inl (refl, is, differ)))))
