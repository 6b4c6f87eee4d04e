-- The requests that are listed are those that actions apply to.
use Rattle.std.proofs.Common.{◌≡◌, Bool, true, false, cond, subst, ◌&&◌, ◌||◌, List, [], ◌∷◌, ◌++◌, map, Option, Some, None, refl, sym, ap, ◌∙◌}
use Rattle.std.specs.Prelude.{option_map}
use Rattle.std.specs.List.{list_any, AllByRecursion}
use Rattle.std.specs.List.Sorted.{IsStrictlySortedBy}
use Rattle.std.specs.Map.{lookup}
use Rattle.std.specs.BTreeMap.{is_at}
use Rattle.std.specs.Ordering.{is_eq}
use Rattle.std.specs.declared.cmp.Ordering.TheVariants.{Less}
use Rattle.std.proofs.lemmas.List.Folds.{list_any-append}
use Rattle.cedar_language.specs.Uid.{Name, Uid}
use Rattle.cedar_language.specs.Order.{same_name, same_uid, uid_cmp}
use Rattle.cedar_typing.proofs.Sameness.{uid_is}
use Rattle.cedar_schema_grammar.specs.Environments.{Application, application, pairs}
use Rattle.cedar_validator_schema.specs.Applying.{applies_in}
use Rattle.cedar_literals.specs.Laws.{uid_cmp_ties}
use Rattle.cedar_validator.specs.Environments.{same_request}
use Rattle.cedar_validator.specs.SchemaTypes.{action_view, requests_in}
use Rattle.cedar_validator.specs.declared.actions.ActionTypes.{ActionTypes}

at_is_uid : (u w : Uid) → is_at (uid_cmp u) w ≡ same_uid u w
at_is_uid u w = sym (uid_cmp_ties u w)

nowhere : (a b : Bool) → false ≡ (a && (b && false))
nowhere true true = refl
nowhere true false = refl
nowhere false b = refl

joined : (a b c d : Bool) → ((a && (b && c)) || (a && (b && d))) ≡ (a && (b && (c || d)))
joined true true c d = refl
joined true false c d = refl
joined false b c d = refl

either : (a b c d : Bool) → ((a && (b && c)) || (a && (d && c))) ≡ (a && ((b || d) && c))
either true true true d = refl
either true true false true = refl
either true true false false = refl
either true false c d = refl
either false b c d = refl

or_false : (a : Bool) → (a || false) ≡ a
or_false true = refl
or_false false = refl

module _ (u : Uid) (n m : Name) where
  abbrev is_it : Application → Bool
  is_it = same_request (application u n m)

  any_resource : (k : Uid) (p : Name) (rs : List Name) → list_any is_it (map (application k p) rs) ≡ (same_uid u k && (same_name n p && list_any (same_name m) rs))
  any_resource k p [] = nowhere (same_uid u k) (same_name n p)
  any_resource k p (r ∷ rs) =
      ap (λ b. (same_uid u k && (same_name n p && same_name m r)) || b) (any_resource k p rs)
      ∙ joined (same_uid u k) (same_name n p) (same_name m r) (list_any (same_name m) rs)

  no_principal : (a : Bool) → false ≡ (a && false)
  no_principal true = refl
  no_principal false = refl

  any_principal : (k : Uid) (ps rs : List Name) → list_any is_it (pairs k ps rs) ≡ (same_uid u k && (list_any (same_name n) ps && list_any (same_name m) rs))
  any_principal k [] rs = no_principal (same_uid u k)
  any_principal k (p ∷ ps) rs =
      list_any-append is_it (map (application k p) rs) (pairs k ps rs)
      ∙ ap (λ b. b || list_any is_it (pairs k ps rs)) (any_resource k p rs)
      ∙ ap (λ b. (same_uid u k && (same_name n p && list_any (same_name m) rs)) || b) (any_principal k ps rs)
      ∙ either (same_uid u k) (same_name n p) (list_any (same_name m) rs) (list_any (same_name n) ps)

  none_later : (es : List (Uid × ActionTypes)) → AllByRecursion (λ l. uid_cmp u l ≡ Less) (map (λ e. e.0) es) → lookup (is_at (uid_cmp u)) es ≡ None
  none_later [] h = refl
  none_later (e ∷ es) h = by (is_at (uid_cmp u) e.0) (ap is_eq h.0) (none_later es h.1)
    where
      by : (b : Bool) → b ≡ false → lookup (is_at (uid_cmp u)) es ≡ None → cond b (Some e.1) (lookup (is_at (uid_cmp u)) es) ≡ None
      by true g ih = absurd cc
      by false g ih = ih

  abbrev applied : List (Uid × ActionTypes) → Bool
  applied es = applies_in (option_map action_view (lookup (is_at (uid_cmp u)) es)) n m

  pub requests_are : (es : List (Uid × ActionTypes)) → IsStrictlySortedBy uid_cmp (map (λ e. e.0) es) → list_any is_it (requests_in es) ≡ applied es
  unfolding IsStrictlySortedBy
  requests_are [] h = refl
  requests_are (e ∷ es) h =
      list_any-append is_it (pairs e.0 e.1.principals.items e.1.resources.items) (requests_in es)
      ∙ ap (λ b. b || list_any is_it (requests_in es)) (any_principal e.0 e.1.principals.items e.1.resources.items)
      ∙ ap (λ b. (same_uid u e.0 && applies_in (Some (action_view e.1)) n m) || b) (requests_are es h.1)
      ∙ by (same_uid u e.0) refl
    where
      by : (b : Bool) → same_uid u e.0 ≡ b → ((b && applies_in (Some (action_view e.1)) n m) || applied es) ≡ applied (e ∷ es)
      by true g =
          let is : u ≡ e.0 = uid_is u e.0 g in
          let none : lookup (is_at (uid_cmp u)) es ≡ None = none_later es (subst (λ (w : Uid). AllByRecursion (λ l. uid_cmp w l ≡ Less) (map (λ x. x.0) es)) (sym is) h.0) in
          ap (λ o. applies_in (Some (action_view e.1)) n m || applies_in (option_map action_view o) n m) none
          ∙ or_false (applies_in (Some (action_view e.1)) n m)
          ∙ sym (ap (λ b. applies_in (option_map action_view (cond b (Some e.1) (lookup (is_at (uid_cmp u)) es))) n m) (at_is_uid u e.0 ∙ g))
      by false g = sym (ap (λ b. applies_in (option_map action_view (cond b (Some e.1) (lookup (is_at (uid_cmp u)) es))) n m) (at_is_uid u e.0 ∙ g))
