-- What a part of a scope asks, by what its variable is.
use Rattle.std.proofs.Common.{◌≡◌, Option, Some, None, refl, ap, ◌∙◌}
use Rattle.std.specs.Option.{option_map}
use Rattle.cedar_language.specs.Tree as tree
use Rattle.cedar_grammar.specs.Policy.{Target}
use Rattle.cedar_grammar.specs.Steps.{◌>>=◌}
use Rattle.cedar_grammar.specs.Token.{Word}
use Rattle.cedar_grammar.specs.Loose as loose
use Rattle.cedar_grammar.specs.Converting.{type_of, target, typed_within, asked, constraint, action_asked, action_constraint}
use Rattle.cedar_cst.specs.declared.leaves.RelOp.{RelOp}
use Rattle.cedar_cst.specs.declared.node.Node.{Node}
use Rattle.cedar_cst.specs.LeafView.{shown_ident, shown_name, view_rel_op}
use Rattle.cedar_cst.specs.declared.cst.Add.{Add}
use Rattle.cedar_cst.specs.declared.cst.Expr.{Expr}
use Rattle.cedar_cst.specs.declared.cst.VariableDef.{VariableDef}
use Rattle.cedar_cst.specs.View.{shown_add, shown_expr, view_variable_def, shown_variable_def}
use Rattle.cedar_cst.proofs.Views.{seen}
use Rattle.cedar_policy_parts.specs.Asked.{variable_asked}
use Rattle.cedar_policy_parts.specs.declared.constraints.PrincipalOrResource.{PrincipalOrResource}
use Rattle.cedar_conversion.specs.Words.{ident_variable}
use Rattle.cedar_policy_conversion.specs.Own.{own_word, asked_of, without}
use Rattle.cedar_policy_conversion.proofs.Owning.{constraint_is, constraint_other, constraint_unasked, constraint_named, action_is, action_other, action_unasked, action_named, action_typed}

without_shown : {A B : Type 0} (f : A → B) (n : Option A) → without (option_map f n) ≡ without n
without_shown f None = refl
without_shown f (Some x) = refl

abbrev pub compares : VariableDef → Option (loose.RelOp × loose.Expr)
compares d = option_map (λ x. (view_rel_op x.0, shown_expr x.1)) d.ineq

abbrev typed : VariableDef → Option loose.Add
typed d = option_map shown_add d.entity_type

abbrev named : VariableDef → Option loose.Name
named d = option_map shown_name d.unused_type_name

abbrev variable : VariableDef → Option tree.Variable
variable d = ident_variable (shown_ident d.variable)

-- what is asked by a type and an operator, where what it compares with is found
pub asked_typed : (own : Word) (d : VariableDef) (t : Node (Option Add)) (y : RelOp × Node (Option Expr)) (e : Target) → d.entity_type ≡ Some t → d.ineq ≡ Some y → target own (shown_expr y.1) ≡ Some e → asked own (typed d) (compares d) ≡ (type_of (shown_add t) >>= λ p. typed_within p (view_rel_op y.0) e)
asked_typed own d t y e h k m =
    ap (λ o. asked own (option_map shown_add o) (compares d)) h
    ∙ ap (λ (o : Option (RelOp × Node (Option Expr))). asked own (Some (shown_add t)) (option_map (λ x. (view_rel_op x.0, shown_expr x.1)) o)) k
    ∙ ap (λ o. type_of (shown_add t) >>= λ p. o >>= typed_within p (view_rel_op y.0)) m

module _ (n : Node (Option VariableDef)) (d : VariableDef) (is : n.node ≡ Some d) where
  shown : shown_variable_def n ≡ loose.variable_def (shown_ident d.variable) (named d) (typed d) (compares d)
  shown = seen loose.missing_variable_def view_variable_def n d is

  pub asked_own : (v : PrincipalOrResource) → variable d ≡ Some (variable_asked v) → without d.unused_type_name ≡ Some tt → constraint (own_word v) (shown_variable_def n) ≡ asked (own_word v) (typed d) (compares d)
  asked_own v h k = ap (constraint (own_word v)) shown ∙ constraint_is v (shown_ident d.variable) (named d) (typed d) (compares d) h (without_shown shown_name d.unused_type_name ∙ k)

  pub asked_other : (v : PrincipalOrResource) → (variable d ≡ Some (variable_asked v) → ⊥) → constraint (own_word v) (shown_variable_def n) ≡ None
  asked_other v h = ap (constraint (own_word v)) shown ∙ constraint_other v (shown_ident d.variable) (named d) (typed d) (compares d) h

  pub unasked : (v : PrincipalOrResource) → (variable d >>= asked_of) ≡ None → constraint (own_word v) (shown_variable_def n) ≡ None
  unasked v h = ap (constraint (own_word v)) shown ∙ constraint_unasked v (shown_ident d.variable) (named d) (typed d) (compares d) h

  pub asked_named : (v : PrincipalOrResource) → without d.unused_type_name ≡ None → constraint (own_word v) (shown_variable_def n) ≡ None
  asked_named v k = ap (constraint (own_word v)) shown ∙ constraint_named (own_word v) (shown_ident d.variable) (named d) (typed d) (compares d) (without_shown shown_name d.unused_type_name ∙ k)

  -- ---- of the action

  pub action_own : variable d ≡ Some tree.Action → without d.unused_type_name ≡ Some tt → d.entity_type ≡ None → action_constraint (shown_variable_def n) ≡ action_asked (compares d)
  action_own h k t =
      ap action_constraint (shown ∙ ap (λ o. loose.variable_def (shown_ident d.variable) (named d) (option_map shown_add o) (compares d)) t)
      ∙ action_is (shown_ident d.variable) (named d) (compares d) h (without_shown shown_name d.unused_type_name ∙ k)

  pub action_not : (variable d ≡ Some tree.Action → ⊥) → action_constraint (shown_variable_def n) ≡ None
  action_not h = ap action_constraint shown ∙ action_other (shown_ident d.variable) (named d) (typed d) (compares d) h

  pub no_action : (variable d >>= asked_of) ≡ None → action_constraint (shown_variable_def n) ≡ None
  no_action h = ap action_constraint shown ∙ action_unasked (shown_ident d.variable) (named d) (typed d) (compares d) h

  pub named_action : without d.unused_type_name ≡ None → action_constraint (shown_variable_def n) ≡ None
  named_action k = ap action_constraint shown ∙ action_named (shown_ident d.variable) (named d) (typed d) (compares d) (without_shown shown_name d.unused_type_name ∙ k)

  pub typed_action : without d.entity_type ≡ None → action_constraint (shown_variable_def n) ≡ None
  typed_action k = ap action_constraint shown ∙ by (typed d) (without_shown shown_add d.entity_type ∙ k)
    where
      by : (t : Option loose.Add) → without t ≡ None → action_constraint (loose.variable_def (shown_ident d.variable) (named d) t (compares d)) ≡ None
      by None h = cc
      by (Some x) h = action_typed (shown_ident d.variable) (named d) x (compares d)
