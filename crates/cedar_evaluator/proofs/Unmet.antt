-- A constraint that names an entity isn't met by what isn't in that entity.
use Rattle.std.proofs.Common.{◌≡◌, Bool, true, false, ◌||◌, Option, Some, None, [], ◌∷◌, is_some, option_map, refl, sym, ◌∙◌, ap, true≢false}
use Rattle.cedar_language.specs.Uid.{Uid}
use Rattle.cedar_language.specs.Order.{same_name, same_uid}
use Rattle.cedar_grammar.specs.Policy.{Constraint, anything, equals, within, of_type, of_type_within, ActionConstraint, any_action, action_equals, action_within_any}
use Rattle.cedar_grammar.specs.Scopes.{and_then_met, action_meets}
use Rattle.cedar_policy_parts.specs.References.{target_bound}
use Rattle.cedar_policy_set.specs.ScopeNaming.{named, is_settled, named_action}
use Rattle.cedar_evaluator.specs.Scopes.{constraint_met}

pub false_behind : (b : Bool) → and_then_met (Some b) (Some false) ≡ Some false
false_behind true = refl
false_behind false = refl

module _ (is_in : Uid → Bool) (u n : Uid) (itself : same_uid u n ≡ true → is_in n ≡ true) (out : is_in n ≡ false) where
  differs : same_uid u n ≡ false
  differs = by_test (same_uid u n) refl
    where
      by_test : (b : Bool) → same_uid u n ≡ b → same_uid u n ≡ false
      by_test true e = absurd (true≢false (sym (itself e) ∙ out))
      by_test false e = e

  pub unmet : (bound : Option Uid) (c : Constraint) → named bound c ≡ Some n → constraint_met is_in u bound c ≡ Some false
  unmet bound anything names = absurd (cc names)
  unmet bound (equals t) names = ap (option_map (same_uid u)) names ∙ ap Some differs
  unmet bound (within t) names = ap (option_map is_in) names ∙ ap Some out
  unmet bound (of_type name) names = absurd (cc names)
  unmet bound (of_type_within name t) names =
      ap (λ o. and_then_met (Some (same_name u.type_name name)) (option_map is_in o)) names ∙ ap (λ b. and_then_met (Some (same_name u.type_name name)) (Some b)) out
      ∙ false_behind (same_name u.type_name name)

  pub action_unmet : (c : ActionConstraint) → named_action c ≡ Some n → action_meets (λ a. is_in) c u ≡ false
  action_unmet any_action names = absurd (cc names)
  action_unmet (action_equals x) names = let is : x ≡ n = cc in ap (same_uid u) is ∙ differs
  action_unmet (action_within_any []) names = refl
  action_unmet (action_within_any (x ∷ [])) names = let is : x ≡ n = cc in neither (is_in x) (ap is_in is ∙ out)
    where
      neither : (b : Bool) → b ≡ false → (b || false) ≡ false
      neither true h = h
      neither false h = refl
  action_unmet (action_within_any (x ∷ y ∷ ys)) names = absurd (cc names)

-- ---- where each slot is bound a constraint is met or not

mapped : (f : Uid → Bool) (o : Option Uid) → is_some o ≡ true → (b : Bool) × (option_map f o ≡ Some b)
mapped f (Some x) h = (f x, refl)
mapped f None h = absurd (cc h)

behind : (a : Bool) (o : Option Bool) (b : Bool) → o ≡ Some b → (d : Bool) × (and_then_met (Some a) o ≡ Some d)
behind true o b h = (b, h)
behind false o b h = (false, refl)

pub settled : (is_in : Uid → Bool) (u : Uid) (bound : Option Uid) (c : Constraint) → is_settled bound c ≡ true → (b : Bool) × (constraint_met is_in u bound c ≡ Some b)
settled is_in u bound anything h = (true, refl)
settled is_in u bound (equals t) h = mapped (same_uid u) (target_bound bound t) h
settled is_in u bound (within t) h = mapped is_in (target_bound bound t) h
settled is_in u bound (of_type name) h = (same_name u.type_name name, refl)
settled is_in u bound (of_type_within name t) h =
    let (b, is) = mapped is_in (target_bound bound t) h in
    behind (same_name u.type_name name) (option_map is_in (target_bound bound t)) b is
