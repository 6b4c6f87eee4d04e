-- What the hierarchies of a schema ask of facts, direct parents decide.
use Rattle.std.proofs.Common.{◌≡◌, ◌⊎◌, inl, inr, Bool, true, false, List, [], ◌∷◌, Option, Some, None, refl, sym, ap, ◌∙◌, subst}
use Rattle.std.specs.Prelude.{is_some, option_map}
use Rattle.std.specs.List.{list_any, cons_option}
use Rattle.cedar_language.specs.Uid.{Name, Uid}
use Rattle.cedar_language.specs.Order.{same_uid}
use Rattle.cedar_language.specs.Facts.{Reaches, edge, further}
use Rattle.cedar_language.proofs.Booleans.{or_cases}
use Rattle.cedar_typing.proofs.Sameness.{uid_is}
use Rattle.cedar_typing.specs.Deciding.{ParentsAreEnough}
use Rattle.cedar_schema_grammar.specs.Syntax.{ActionRef}
use Rattle.cedar_schema_grammar.specs.Declared.{Library, Action, Declared, action_uid, action_at, places, type_of_ref, action_named}
use Rattle.cedar_schema_grammar.specs.Reaching.{Edge}
use Rattle.cedar_schema_grammar.specs.Faults.{found_groups, groups_of, is_in_group}
use Rattle.cedar_schema_grammar.specs.Resolving.{may_have_parent, schema_of}
use Rattle.cedar_schema_grammar.specs.Laws.{AncestorsConform, ActionsConform}
use Rattle.cedar_schema_grammar.proofs.Reaching.{reaches_on, groups_are_transitive, parents_are_transitive}
use Rattle.cedar_schema_grammar.proofs.Unfolding.{first_is, found_passes, map_is}

may_reach_on : (l : Library) (d : Declared) (n m k : Name) → (schema_of l d).may_reach n m ≡ true → (schema_of l d).may_reach m k ≡ true → (schema_of l d).may_reach n k ≡ true
may_reach_on l d n m k e f =
    (parents_are_transitive l d n k).1 (reaches_on (may_have_parent d) n m k ((parents_are_transitive l d n m).0 e) ((parents_are_transitive l d m k).0 f))

pub ancestors_conform : ParentsAreEnough → AncestorsConform
ancestors_conform enough l d is_parent facts decides h = enough is_parent facts decides (schema_of l d).may_reach (may_reach_on l d) h

-- ---- actions

-- an action that is referred to is declared
named_is_declared : (d : Declared) (namespace : Name) (r : ActionRef) (w : Uid) → action_named d namespace r ≡ Some w → is_some (action_at d w) ≡ true
named_is_declared d namespace r w e =
    let place = first_is (λ m. option_map action_uid (action_at d (record { type_name = m; id = r.name }))) (places namespace (type_of_ref r)) w e in
    let at : Uid = record { type_name = place.0; id = r.name } in
    let a = map_is action_uid (action_at d at) w place.1 in
    let itself : action_uid a.0 ≡ at = uid_is (action_uid a.0) at (found_passes (λ x. same_uid (action_uid x) at) d.actions a.0 a.1).0 in
    subst (λ u. is_some (action_at d u) ≡ true) (sym itself ∙ a.2) (ap is_some a.1)

found_is_declared : (d : Declared) (namespace : Name) (rs : List ActionRef) (w : Uid) → list_any (same_uid w) (found_groups d namespace rs) ≡ true → is_some (action_at d w) ≡ true
found_is_declared d namespace [] w e = absurd (cc e)
found_is_declared d namespace (r ∷ rs) w e = by (action_named d namespace r) refl e (found_is_declared d namespace rs w)
  where
    by : (o : Option Uid) → action_named d namespace r ≡ o → list_any (same_uid w) (cons_option o (found_groups d namespace rs)) ≡ true → (list_any (same_uid w) (found_groups d namespace rs) ≡ true → is_some (action_at d w) ≡ true) → is_some (action_at d w) ≡ true
    by None f g ih = ih g
    by (Some u) f g ih = either (or_cases (same_uid w u) (list_any (same_uid w) (found_groups d namespace rs)) g)
      where
        either : (same_uid w u ≡ true) ⊎ (list_any (same_uid w) (found_groups d namespace rs) ≡ true) → is_some (action_at d w) ≡ true
        either (inl h) = subst (λ x. is_some (action_at d x) ≡ true) (sym (uid_is w u h)) (named_is_declared d namespace r u f)
        either (inr h) = ih h

group_is_declared : (d : Declared) (w : Uid) (o : Option Action) → list_any (same_uid w) (groups_of d o) ≡ true → is_some (action_at d w) ≡ true
group_is_declared d w None e = absurd (cc e)
group_is_declared d w (Some a) e = found_is_declared d a.namespace a.written.groups w e

module _ (d : Declared) (is_parent : Uid → Uid → Bool) (are_groups : (u w : Uid) → is_some (action_at d u) ≡ true → is_parent u w ≡ is_in_group d u w) where
  parents_lead : (u w : Uid) → is_some (action_at d u) ≡ true → Reaches (λ x y. is_parent x y ≡ true) u w → Reaches (Edge (is_in_group d)) u w
  parents_lead u w a (edge e) = edge (sym (are_groups u w a) ∙ e)
  parents_lead u w a (further {b} e r) =
      let f : is_in_group d u b ≡ true = sym (are_groups u b a) ∙ e in
      further f (parents_lead b w (group_is_declared d b (action_at d u) f) r)

  groups_lead : (u w : Uid) → is_some (action_at d u) ≡ true → Reaches (Edge (is_in_group d)) u w → Reaches (λ x y. is_parent x y ≡ true) u w
  groups_lead u w a (edge e) = edge (are_groups u w a ∙ e)
  groups_lead u w a (further {b} e r) = further (are_groups u b a ∙ e) (groups_lead b w (group_is_declared d b (action_at d u) e) r)

same_both : (a b : Bool) → (a ≡ true → b ≡ true) → (b ≡ true → a ≡ true) → a ≡ b
same_both true b f g = sym (f refl)
same_both false true f g = g refl
same_both false false f g = refl

pub actions_conform : ActionsConform
actions_conform l d is_parent facts decides are_groups u w a =
    same_both (facts.reaches u w) ((schema_of l d).action_reaches u w)
    (λ e. (groups_are_transitive l d u w).1 (parents_lead d is_parent are_groups u w a ((decides u w).0 e)))
    (λ e. (decides u w).1 (groups_lead d is_parent are_groups u w a ((groups_are_transitive l d u w).0 e)))
