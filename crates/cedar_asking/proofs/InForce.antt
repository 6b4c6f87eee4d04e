-- The policies of a set that are in force in a world that has them.
use Rattle.std.proofs.Common.{◌≡◌, true, if◌then◌else◌, Option, Some, None, IsSome, refl, sym, ◌∙◌, ap, subst}
use Rattle.std.specs.Option.{option_map}
use Rattle.std.specs.FinMap as finite
use Rattle.std.specs.Cmp.Lexicographic.{bytes_decides, nat_list_eq_equiv}
use Rattle.std.proofs.lemmas.Map.Entries.{option_filter}
use Rattle.std.proofs.lemmas.Map.Views.{lookup-from_Contains, Contains-from_lookup}
use Rattle.cedar_language.specs.Uid.{Text}
use Rattle.cedar_grammar.specs.Bindings.{linked}
use Rattle.cedar_grammar.specs.Syntax.{PolicySyntax}
use Rattle.cedar_world.specs.World.{World, Policy, template_of, template_at, standing_for, in_force_as, in_force_at}
use Rattle.cedar_world.specs.Step.{SomeInForce}
use Rattle.cedar_evaluator.proofs.Lists.{IsAmong, contained, contains}
use Rattle.cedar_policy_set.specs.Entries.{Entry, static_policy, template, link, Entries, bound_at, HasItsTemplate, IsFull, IsWhole, is_policy, policies_of}
use Rattle.cedar_policy_set.specs.Texts.{AreToldBySlots, syntax_in}
use Rattle.cedar_held.specs.PolicyWorlds.{world_bound, policies_in, FindsAsWorlds}
use Rattle.cedar_evaluator.proofs.Members.{filtered, unfiltered}

-- a policy or template as it is written, and a link as if it had been written with its entities
abbrev pub written_entry : Entry → PolicySyntax
written_entry (static_policy s) = s
written_entry (template s) = s
written_entry (link t s b) = linked b s

some_same : {A : Type 0} (x y : A) → Some x ≡ Some y → x ≡ y
some_same x y e = cc

not_some : {A : Type 0} (x : A) → None ≡ Some x → ⊥
not_some x e = cc

module _ (es : Entries) (whole : IsWhole es) where
  -- a policy of the set is bound to its id
  pub is_bound : (e : Text × Entry) → IsAmong e (policies_of es) → (bound_at es e.0 ≡ Some e.1) × (is_policy e.1 ≡ true)
  is_bound e a =
      let (among, is) = unfiltered (λ (x : Text × Entry). is_policy x.1) e es a in
      (lookup-from_Contains nat_list_eq_equiv e.0 e.1 es whole.distinct (contains es e among), is)

  pub is_there : (id : Text) (e : Entry) → bound_at es id ≡ Some e → is_policy e ≡ true → IsAmong (id, e) (policies_of es)
  is_there id e at is =
      filtered (λ (x : Text × Entry). is_policy x.1) (id, e) es (contained es (id, e) (Contains-from_lookup (λ a b. (bytes_decides a b).0) id e es at)) is

  module _ (slots : AreToldBySlots es) (finds : FindsAsWorlds) (world : World) (held : world.policies ≡ policies_in es) where
    found : (id : Text) (o : Option Entry) → bound_at es id ≡ o → finite.get world.policies id ≡ option_map world_bound o
    found id o at = ap (λ m. finite.get m id) held ∙ finds es id ∙ ap (option_map world_bound) at

    template_found : (id : Text) (s : PolicySyntax) → bound_at es id ≡ Some (template s) → template_at world.policies id ≡ Some s
    template_found id s at = ap template_of (found id (Some (template s)) at) ∙ ap (λ b. if b then Some s else None) (slots.templates id s at)

    stands_for : (id : Text) (e : Entry) → bound_at es id ≡ Some e → IsFull e → HasItsTemplate es e → standing_for world.policies (world_bound e) ≡ option_map written_entry (option_filter is_policy (Some e))
    stands_for id (static_policy s) at full has = ap (λ b. if b then None else Some s) (slots.policies id s at)
    stands_for id (template s) at full has = ap (λ b. if b then None else Some s) (slots.templates id s at)
    stands_for id (link t s b) at full has = ap (option_map (linked b)) (template_found t s has)

    in_force : (id : Text) (o : Option Entry) → bound_at es id ≡ o → in_force_at world.policies id ≡ option_map written_entry (option_filter is_policy o)
    in_force id None at = ap (in_force_as world.policies) (found id None at)
    in_force id (Some e) at = ap (in_force_as world.policies) (found id (Some e) at) ∙ stands_for id e at (whole.full id e at) (whole.templates id e at)

    -- a policy is in force as it is written
    pub is_in_force : (id : Text) (e : Entry) → bound_at es id ≡ Some e → is_policy e ≡ true → in_force_at world.policies id ≡ Some (written_entry e)
    is_in_force id e at is = in_force id (Some e) at ∙ ap (λ b. option_map written_entry (if b then Some e else None)) is

    -- where the set has a policy, some policy is in force
    pub some_in_force : (e : Text × Entry) → IsAmong e (policies_of es) → SomeInForce world
    some_in_force e a =
        let (at, policy) = is_bound e a in
        (e.0, subst IsSome (sym (is_in_force e.0 e.1 at policy)) refl)

    -- the world holds a static policy, and the template of a link
    pub is_held : (id : Text) (e : Entry) → bound_at es id ≡ Some e → (own : Text) × (finite.get world.policies own ≡ Some (Policy (syntax_in e)))
    is_held id (static_policy s) at = (id, found id (Some (static_policy s)) at)
    is_held id (template s) at = (id, found id (Some (template s)) at)
    is_held id (link t s b) at = (t, found t (Some (template s)) (whole.templates id (link t s b) at))

    -- what is in force is written by a policy of the set
    abbrev pub IsWritten : Text → PolicySyntax → Type 0
    IsWritten id s = (e : Entry) × (bound_at es id ≡ Some e) × (s ≡ written_entry e) × (is_policy e ≡ true)

    pub written_by : (id : Text) (s : PolicySyntax) → in_force_at world.policies id ≡ Some s → IsWritten id s
    written_by id s f = by_entry (bound_at es id) refl (sym (in_force id (bound_at es id) refl) ∙ f)
      where
        by_entry : (o : Option Entry) → bound_at es id ≡ o → option_map written_entry (option_filter is_policy o) ≡ Some s → IsWritten id s
        by_entry None at e = absurd (not_some s e)
        by_entry (Some (static_policy t)) at e = (static_policy t, at, some_same s t (sym e), refl)
        by_entry (Some (template t)) at e = absurd (not_some s e)
        by_entry (Some (link t u b)) at e = (link t u b, at, some_same s (linked b u) (sym e), refl)
