-- Actions by their uids: what they apply to, and the groups that they are in.
use Rattle.std.specs.Prelude.{◌≡◌, Bool, ◌&&◌, List, ◌∷◌, Option, option_map}
use Rattle.std.specs.List.{find, list_any}
use Rattle.std.specs.BTreeMap.{get}
use Rattle.cedar_language.specs.Uid.{Name, Uid}
use Rattle.cedar_language.specs.Order.{same_name, same_uid, uid_cmp}
use Rattle.cedar_schema_grammar.specs.Declared.{Library, Declared, Action, action_uid}
use Rattle.cedar_schema_grammar.specs.Faults.{groups_of}
use Rattle.cedar_schema_resolution.specs.Parents.{AreNamesOf}
use Rattle.cedar_schema_resolution.specs.Shapes.{IsUnfolded}
use Rattle.cedar_validator_schema.specs.ActionNames.{AreUidsOf}
use Rattle.cedar_validator_schema.specs.Applying.{Application, application_view, application_of}
use Rattle.cedar_validator_schema.specs.Hierarchies.{targets_at}
use Rattle.cedar_validator_schema.specs.declared.actions.Actions.{Actions}
use Rattle.cedar_validator_schema.specs.declared.actions.DeclaredNames.{DeclaredNames}

-- the first of these of a uid
abbrev pub first_action : List Action → Uid → Option Action
first_action as_ u = find (λ a. same_uid (action_uid a) u) as_

-- what an action applies to, where it is declared
abbrev pub application_at : Actions → Uid → Option Application
application_at m u = option_map application_view (get uid_cmp m.by_uid u)

-- just these have what they apply to, and the groups that they are in
pub record HasActions (d : Declared) (l : Library) (as_ : List Action) (m : Actions) : Type 0 where
  pub applications : (u : Uid) → application_at m u ≡ option_map (application_of d l) (first_action as_ u)
  pub groups : (u : Uid) → targets_at uid_cmp m.groups u ≡ groups_of d (first_action as_ u)

-- names and table are those of what is declared
pub record AreOf (d : Declared) (l : Library) (c : DeclaredNames) : Type 0 where
  pub entities : AreNamesOf d c.entities.now
  pub actions : AreUidsOf d c.actions.now
  pub table : IsUnfolded d l c.table.now

-- whatever is declared that they are of: one more action stands before these
abbrev pub PutsAction : DeclaredNames → Action → Actions → Actions → Type 0
PutsAction c a old new = (d : Declared) (l : Library) (as_ : List Action) → AreOf d l c → HasActions d l as_ old → HasActions d l (a ∷ as_) new

-- and just these are put
abbrev pub AreActions : DeclaredNames → List Action → Actions → Type 0
AreActions c as_ m = (d : Declared) (l : Library) → AreOf d l c → HasActions d l as_ m

-- one of these actions is of the first type, and in a group of the second
abbrev pub types_lead : (Uid → List Uid) → List Action → Name → Name → Bool
types_lead groups as_ n m = list_any (λ a. same_name (action_uid a).type_name n && list_any (λ w. same_name w.type_name m) (groups (action_uid a))) as_

abbrev pub is_type_among : List Action → Name → Bool
is_type_among as_ n = list_any (λ a. same_name (action_uid a).type_name n) as_
