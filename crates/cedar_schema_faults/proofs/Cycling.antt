-- An action that is told is within itself, or none is.
use Rattle.std.proofs.Common.{◌≡◌, ◌<◌, ℕ, List, [], Option, Some, None, length, get_or, slice_index, true, refl, sym, ap, ◌∙◌, subst}
use Rattle.std.specs.Prelude.{map, option_map}
use Rattle.std.specs.Global.{Vec}
use Rattle.std.specs.List.{slice_get}
use Rattle.std.proofs.lemmas.List.{length-map}
use Rattle.std.proofs.lemmas.Option.{slice_get_read, slice_get-map}
use Rattle.cedar_language.specs.Uid.{Uid}
use Rattle.cedar_language.specs.Facts.{Reaches}
use Rattle.cedar_schema_grammar.specs.Declared.{Action, Declared, action_uid}
use Rattle.cedar_schema_grammar.specs.Faults.{SchemaFault, CycleInActionHierarchy}
use Rattle.cedar_schema_grammar.specs.Laws.{GroupsAreTransitive}
use Rattle.cedar_schema.specs.Orders.{HasTarget, AreWithin, IsOrder}
use Rattle.cedar_schema_resolution.specs.Declarations.{action_view}
use Rattle.cedar_schema_resolution.specs.declared.declarations.DeclaredAction.{DeclaredAction}
use Rattle.cedar_schema_faults.specs.Actions.{HaveNumbers, groups_in}
use Rattle.cedar_schema_faults.specs.Cycles.{AreApartOr}
use Rattle.cedar_schema_faults.specs.declared.actions.ActionNumbers.{ActionNumbers}
use Rattle.cedar_schema_faults.proofs.Grouping as grouping

module _ (actions : List DeclaredAction) (c : ActionNumbers) (numbers : HaveNumbers (map action_view actions) c) (edges : List (Vec ℕ))
    (are : map (λ (row : Vec ℕ). row.items) edges ≡ map (groups_in c) (map action_view actions)) where
  pub edges_within : AreWithin edges
  edges_within = grouping.within (record { entities = []; types = []; actions = map action_view actions }) c numbers edges are

  pub cycle_below : (i : ℕ) → Reaches (HasTarget edges) i i → i < length actions
  cycle_below i r = subst (λ n. i < n) (length-map actions action_view)
      (grouping.below (record { entities = []; types = []; actions = map action_view actions }) c numbers edges are i r)

  module _ (found : GroupsAreTransitive) (d : Declared) (same : map action_view actions ≡ d.actions) where
    have : HaveNumbers d.actions c
    have = subst (λ xs. HaveNumbers xs c) same numbers

    rows : map (λ (row : Vec ℕ). row.items) edges ≡ map (groups_in c) d.actions
    rows = are ∙ ap (map (groups_in c)) same

    pub none_within : (order : List ℕ) → IsOrder edges order → AreApartOr d None
    none_within order is = grouping.apart d c have edges rows order is found

    pub one_within : (i : ℕ) (a : DeclaredAction) (f : SchemaFault) → a ≡ get_or actions i a → Reaches (HasTarget edges) i i
        → f ≡ CycleInActionHierarchy (action_uid (action_view a)) → AreApartOr d (Some f)
    one_within i a f at r is = (
      action_uid (action_view a),
      is,
      grouping.told d c have edges rows found i (action_view a)
          (ap (λ xs. slice_get xs i) (sym same) ∙ slice_get-map action_view actions i
          ∙ ap (option_map action_view) (slice_get_read actions (length actions) i a refl (cycle_below i r) at)) r,
    )
