-- What actions apply to, by the names of entity types and a table in which common types are unfolded.
use Rattle.std.specs.Prelude.{◌≡◌, Bool, false, ◌&&◌, List, [], ◌∷◌, ◌++◌, Option, Some, None, option_and_then}
use Rattle.std.specs.List.{slice_get, list_any}
use Rattle.cedar_language.specs.Uid.{Name}
use Rattle.cedar_language.specs.Order.{same_name}
use Rattle.cedar_typing.specs.Types.{CedarType, Fields}
use Rattle.cedar_schema_grammar.specs.Syntax.{TypeSyntax}
use Rattle.cedar_schema_grammar.specs.Declared.{Library, Declared, Action}
use Rattle.cedar_schema_grammar.specs.Faults.{principals_of, resources_of, contexts_of}
use Rattle.cedar_schema_grammar.specs.Written.{type_in}
use Rattle.cedar_schema_grammar.specs.Resolving.{entries_of, context_by}
use Rattle.cedar_schema_grammar.specs.Environments as environments
use Rattle.cedar_schema.specs.Types.{fields_of}
use Rattle.cedar_schema.specs.declared.tables.TypeTable.{TypeTable}
use Rattle.cedar_schema_resolution.specs.Parents.{all_named, AreNamesOf}
use Rattle.cedar_schema_resolution.specs.Shapes.{IsUnfolded}
use Rattle.cedar_schema_resolution.specs.declared.parents.EntityNames.{EntityNames}
use Rattle.cedar_validator_schema.specs.declared.applying.ValidatorAction.{ValidatorAction}

-- the entity types of these entries
abbrev pub types_named : EntityNames → Name → List (List Name) → List Name
types_named c namespace [] = []
types_named c namespace (ns ∷ nss) = all_named c namespace ns ++ types_named c namespace nss

-- what an action applies to: types of principals and of resources, and the attributes of a context
pub record Application : Type 0 where
  pub principals : List Name
  pub resources : List Name
  pub context : Fields

abbrev pub application_view : ValidatorAction → Application
application_view a = record { principals = a.principals.items; resources = a.resources.items; context = fields_of a.context.value }

abbrev pub applies_in : Option Application → Name → Name → Bool
applies_in None n m = false
applies_in (Some a) n m = list_any (same_name n) a.principals && list_any (same_name m) a.resources

-- the application that is written of a declared action
abbrev pub application_of : Declared → Library → Action → Application
application_of d l a = record {
  principals = environments.all_named d a.namespace (principals_of (entries_of (Some a)));
  resources = environments.all_named d a.namespace (resources_of (entries_of (Some a)));
  context = context_by d l a.namespace (contexts_of (entries_of (Some a)));
}

-- whatever is declared that the table has: this is the type of the first of these, if it is known
abbrev pub IsContextType : TypeTable → Name → List TypeSyntax → Option CedarType → Type 0
IsContextType t namespace written o = (d : Declared) (l : Library) → IsUnfolded d l t → o ≡ option_and_then (type_in d l namespace) (slice_get written 0)

-- and these are the attributes of a context
abbrev pub IsContextOf : TypeTable → Name → List TypeSyntax → Fields → Type 0
IsContextOf t namespace written fs = (d : Declared) (l : Library) → IsUnfolded d l t → fs ≡ context_by d l namespace written

-- whatever is declared by these names and in the table: this is what the action applies to
abbrev pub IsApplicationOf : EntityNames → TypeTable → Action → Application → Type 0
IsApplicationOf c t a x = (d : Declared) (l : Library) → AreNamesOf d c → IsUnfolded d l t → x ≡ application_of d l a
