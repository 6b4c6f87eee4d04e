-- Whether two policies have the same syntax, by their parts.
use Rattle.std.proofs.Common.{◌≡◌, refl, sym, ap, subst, Bool, true, false, ◌&&◌, true≢false, Option, Some, None}
use Rattle.std.specs.Bool.{Decides}
use Rattle.std.specs.Ordering.{eq_by_cmp}
use Rattle.std.specs.Cmp.{IsEquivalence, decided, first_so, second_so, on_equiv, and_equiv}
use Rattle.std.specs.Cmp.Lexicographic.{nat_list_eq_equiv}
use Rattle.std.proofs.lemmas.Bool.{and_from}
use Rattle.cedar_language.specs.Uid.{Text}
use Rattle.cedar_language.specs.Order.{same_text}
use Rattle.cedar_language.specs.Answering.{Effect, Permit, Forbid}
use Rattle.cedar_language.specs.Tree.{Tree}
use Rattle.cedar_grammar.specs.Policy.{Policy}
use Rattle.cedar_shapes.specs.ShapeOrder.{tree_cmp}
use Rattle.cedar_shapes.specs.ShapesOnly.{tree_eq_decides}
use Rattle.cedar_policy_parts.specs.Sameness.{same_annotations, annotations_decide}
use Rattle.cedar_policy_parts.specs.SameScopes.{same_constraint, same_action, constraints_decide, actions_decide}

abbrev pub same_effect : Effect → Effect → Bool
same_effect Permit Permit = true
same_effect Forbid Forbid = true
same_effect _ _ = false

abbrev pub same_clauses : Option Tree → Option Tree → Bool
same_clauses None None = true
same_clauses (Some t) (Some u) = eq_by_cmp tree_cmp t u
same_clauses _ _ = false

abbrev pub same_syntax : Policy → Policy → Bool
same_syntax p q =
    same_effect p.effect q.effect
    && (same_annotations p.annotations q.annotations
    && (same_constraint p.principal q.principal
    && (same_action p.action q.action
    && (same_constraint p.resource q.resource
    && same_clauses p.body q.body))))

-- ---- the test holds of the same syntax alone

effect_is : (e f : Effect) → same_effect e f ≡ true → e ≡ f
effect_is Permit Permit h = refl
effect_is Forbid Forbid h = refl
effect_is _ _ h = absurd (true≢false (sym h))

effect_itself : (e : Effect) → same_effect e e ≡ true
effect_itself Permit = refl
effect_itself Forbid = refl

clauses_are : (a b : Option Tree) → same_clauses a b ≡ true → a ≡ b
clauses_are None None h = refl
clauses_are (Some t) (Some u) h = ap Some ((tree_eq_decides t u).0 h)
clauses_are _ _ h = absurd (true≢false (sym h))

clauses_themselves : (a : Option Tree) → same_clauses a a ≡ true
clauses_themselves None = refl
clauses_themselves (Some t) = (tree_eq_decides t t).1 refl

syntax_is : (p q : Policy) → same_syntax p q ≡ true → p ≡ q
syntax_is p q h =
    let h2 = second_so _ _ h in
    let h3 = second_so _ _ h2 in
    let h4 = second_so _ _ h3 in
    let h5 = second_so _ _ h4 in
    let effect : p.effect ≡ q.effect = effect_is _ _ (first_so _ _ h) in
    let annotations : p.annotations ≡ q.annotations = (annotations_decide _ _).0 (first_so _ _ h2) in
    let principal : p.principal ≡ q.principal = (constraints_decide _ _).0 (first_so _ _ h3) in
    let action : p.action ≡ q.action = (actions_decide _ _).0 (first_so _ _ h4) in
    let resource : p.resource ≡ q.resource = (constraints_decide _ _).0 (first_so _ _ h5) in
    let body : p.body ≡ q.body = clauses_are _ _ (second_so _ _ h5) in
    λ i. record { effect = effect i; annotations = annotations i; principal = principal i; action = action i; resource = resource i; body = body i }

syntax_itself : (p : Policy) → same_syntax p p ≡ true
syntax_itself p =
    and_from _ _ (effect_itself p.effect)
    (and_from _ _ ((annotations_decide p.annotations p.annotations).1 refl)
    (and_from _ _ ((constraints_decide p.principal p.principal).1 refl)
    (and_from _ _ ((actions_decide p.action p.action).1 refl)
    (and_from _ _ ((constraints_decide p.resource p.resource).1 refl) (clauses_themselves p.body)))))

pub syntaxes_decide : (p q : Policy) → Decides (same_syntax p q) (p ≡ q)
syntaxes_decide p q = (syntax_is p q, λ e. subst (λ (r : Policy). same_syntax p r ≡ true) e (syntax_itself p))

pub same_syntax_equiv : IsEquivalence same_syntax
same_syntax_equiv = decided same_syntax syntaxes_decide

-- the same id and the same syntax, of whatever has both
module _ {K : Type 0} (id : K → Text) (syntax : K → Policy) where
  abbrev pub same_policy : K → K → Bool
  same_policy p q = same_text (id p) (id q) && same_syntax (syntax p) (syntax q)

  pub same_policy_equiv : IsEquivalence same_policy
  same_policy_equiv = and_equiv (on_equiv id nat_list_eq_equiv) (on_equiv syntax same_syntax_equiv)
