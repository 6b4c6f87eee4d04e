-- A part asks by its own variable, without a name behind `:`; of any other variable it asks nothing.
use Rattle.std.proofs.Common.{◌≡◌, inr, true, Some, refl, sym, ap, ◌∙◌, subst}
use Rattle.std.specs.Prelude.{IfErr}
use Rattle.cedar_grammar.specs.Steps.{◌>>=◌}
use Rattle.cedar_grammar.specs.Loose as loose
use Rattle.cedar_cst.specs.LeafView.{shown_ident, shown_name}
use Rattle.cedar_cst.specs.View.{shown_add, view_variable_def}
use Rattle.cedar_cst.proofs.Views.{seen}
use Rattle.std.specs.Option.{option_map}
use Rattle.cedar_literals.specs.Variables.{variable_of}
use Rattle.cedar_policy_parts.specs.Asked.{variable_asked, constraint_of}
use Rattle.cedar_faults.specs.Reasons.{reason}
use Rattle.cedar_faults.specs.Telling.{TellsOnly}
use Rattle.cedar_conversion.specs.Words.{ident_variable}
use Rattle.cedar_faults.proofs.Telling.{told_more, tells_more}
use Rattle.cedar_policy_conversion.specs.Own.{own_word, asked_of, without}
use Rattle.cedar_policy_conversion.specs.PartsShow.{constraint_shows}
use Rattle.cedar_policy_conversion.proofs.Finding.{passed, through, nothing, same_as}
use Rattle.cedar_policy_conversion.proofs.Owning.{asked_some}
use Rattle.cedar_policy_conversion.proofs.Asking.{compares, asked_own, asked_other, unasked, asked_named}
use Rattle.cedar_policy_conversion.proofs.Parting.{asked_of_is, asked_there_is, another_shows}
use Rattle.cedar_policy_conversion.proofs.constraints.to_principal_or_resource_constraint.Goals as goal

pub returns-in_err-var-clause-constraint : goal.returns-in_err-var-clause-constraint
returns-in_err-var-clause-constraint g c =
    let d = c.in-Some.def in
    let e = c.in_err-var.field-0.0 in
    passed constraint_of c.from_residual.result e _ c.from_residual.ensures
    (through (reason e) (ident_variable (shown_ident d.variable) >>= asked_of) _ c.in_err-var.ensures.variable (unasked c.args.node.now d c.in-Some.is c.args.v))

pub returns-in_err-no_type_name-clause-constraint : goal.returns-in_err-no_type_name-clause-constraint
returns-in_err-no_type_name-clause-constraint g c =
    let d = c.in-Some.def in
    let e = c.in_err-no_type_name.field-0.0 in
    passed constraint_of c.from_residual-in_err-no_type_name.result e _ c.from_residual-in_err-no_type_name.ensures
    (through (reason e) (without d.unused_type_name) _ c.in_err-no_type_name.ensures.absent (asked_named c.args.node.now d c.in-Some.is c.args.v))

pub returns-then-stands_for-clause-constraint : goal.returns-then-stands_for-clause-constraint
returns-then-stands_for-clause-constraint g c =
    let d = c.in-Some.def in
    let v = c.args.v in
    let is : ident_variable (shown_ident d.variable) ≡ Some (variable_asked v) =
    asked_some (ident_variable (shown_ident d.variable)) (variable_of c.in_ok-var.var) c.in_ok-var.ensures.variable ∙ ap Some (c.stands_for.ensures.0 c.if-stands_for.true) in
    same_as constraint_of c.to_asked.result _ _ (asked_own c.args.node.now d c.in-Some.is v is c.in_ok-no_type_name.ensures.absent) c.to_asked.ensures.constraint

pub returns-else-stands_for-clause-constraint : goal.returns-else-stands_for-clause-constraint
returns-else-stands_for-clause-constraint g c =
    let d = c.in-Some.def in
    let v = c.args.v in
    let found : ident_variable (shown_ident d.variable) ≡ Some (variable_of c.in_ok-var.var) =
    asked_some (ident_variable (shown_ident d.variable)) (variable_of c.in_ok-var.var) c.in_ok-var.ensures.variable in
    let other : ident_variable (shown_ident d.variable) ≡ Some (variable_asked v) → ⊥ =
    λ h. (let same : variable_of c.in_ok-var.var ≡ variable_asked v = cc (found, h) in let is : c.stands_for.result ≡ true = c.stands_for.ensures.1 same in absurd (cc (is, c.if-stands_for.false))) in
    nothing c.other_variable.result _ c.other_variable.ensures.fault (asked_other c.args.node.now d c.in-Some.is v other)

pub returns-then-stands_for-clause-shown : goal.returns-then-stands_for-clause-shown
returns-then-stands_for-clause-shown g c =
    let d = c.in-Some.def in
    let v = c.args.v in
    let i = shown_ident d.variable in
    let is : ident_variable i ≡ Some (variable_asked v) = asked_some (ident_variable i) (variable_of c.in_ok-var.var) c.in_ok-var.ensures.variable ∙ ap Some (c.stands_for.ensures.0 c.if-stands_for.true) in
    subst (λ x. IfErr c.to_asked.result (λ e. TellsOnly e (constraint_shows (own_word v) x))) (sym (seen loose.missing_variable_def view_variable_def c.args.node.now d c.in-Some.is))
    (told_more c.to_asked.result _ _ (λ k s. inr (inr (inr (asked_there_is i (variable_asked v) _ _ k is (asked_of_is v (variable_asked v) _ _ k refl s))))) c.to_asked.ensures.shown)

pub returns-else-stands_for-clause-shown : goal.returns-else-stands_for-clause-shown
returns-else-stands_for-clause-shown g c =
    let d = c.in-Some.def in
    let v = c.args.v in
    let i = shown_ident d.variable in
    let found : ident_variable i ≡ Some (variable_of c.in_ok-var.var) = asked_some (ident_variable i) (variable_of c.in_ok-var.var) c.in_ok-var.ensures.variable in
    let other : variable_of c.in_ok-var.var ≡ variable_asked v → ⊥ = λ h. (let is : c.stands_for.result ≡ true = c.stands_for.ensures.1 h in absurd (cc (is, c.if-stands_for.false))) in
    subst (λ x. TellsOnly c.other_variable.result (constraint_shows (own_word v) x)) (sym (seen loose.missing_variable_def view_variable_def c.args.node.now d c.in-Some.is))
    (tells_more c.other_variable.result _ _ (another_shows v i (option_map shown_name d.unused_type_name) (option_map shown_add d.entity_type) (compares d) c.from.result c.in_ok-var.var c.from.ensures found other) c.other_variable.ensures.told)
