-- A schema in the form in which typing asks for it.
use Rattle.std.specs.Prelude.{◌≡◌, ⊤, ◌||◌, Bool, true, false, List, [], ◌∷◌, ◌++◌, Option, Some, None, is_some, option_map, Result, MatchResult}
use Rattle.std.specs.List.{list_any}
use Rattle.std.specs.Option.{option_map_or}
use Rattle.std.specs.BTreeMap.{BTreeMap, get}
use Rattle.std.specs.Global.{Vec}
use Rattle.cedar_language.specs.Uid.{Name, Uid}
use Rattle.cedar_language.specs.Order.{same_name, name_cmp, uid_cmp}
use Rattle.cedar_typing.specs.Types.{CedarType}
use Rattle.cedar_typing.specs.Schema as typing
use Rattle.cedar_schema_grammar.specs.Environments as environments
use Rattle.cedar_typechecker.specs.Types.{type_view, fields_view}
use Rattle.cedar_typechecker.specs.Environments.{shape_view}
use Rattle.cedar_typechecker.specs.declared.types.ExprType.{ExprType}
use Rattle.cedar_typechecker.specs.declared.environment.EntityShape.{EntityShape}
use Rattle.cedar_validator_schema.specs.Applying.{Application, applies_in}
use Rattle.cedar_validator_schema.specs.Actions.{application_at}
use Rattle.cedar_validator_schema.specs.Views.{shape_in, schema_view}
use Rattle.cedar_validator_schema.specs.declared.schema.ValidatorSchema.{ValidatorSchema}
use Rattle.cedar_validator.specs.Names.{is_writable}
use Rattle.cedar_validator.specs.Converting.{names, some_names, TellsName}
use Rattle.cedar_validator.specs.declared.errors.SchemaNameError.{SchemaNameError}
use Rattle.cedar_validator.specs.declared.errors.SchemaNameError.TheVariants as error
use Rattle.cedar_validator.specs.declared.actions.ActionTypes.{ActionTypes}
use Rattle.cedar_validator.specs.declared.schema_types.SchemaTypes.{SchemaTypes}

-- ---- what is named

abbrev pub tags_name : Option CedarType → Name → Bool
tags_name None n = false
tags_name (Some t) n = names t n

-- an attribute's type or that of tags names it
abbrev pub shape_names : typing.EntityShape → Name → Bool
shape_names s n = some_names s.attributes n || tags_name s.tags n

-- it is among these
abbrev pub is_among : List Name → Name → Bool
is_among ms n = list_any (λ m. same_name m n) ms

-- it is a type that an action applies to, or its context names it
abbrev pub application_names : Application → Name → Bool
application_names a n = is_among a.principals n || (is_among a.resources n || some_names a.context n)

-- the schema has an entity type of this name, or names it in one, or of an action
pub data IsNamed (v : ValidatorSchema) (n : Name) : Type 0 where
  is_declared : is_some (shape_in v n) ≡ true → IsNamed v n
  in_shape : (m : Name) (shape : typing.EntityShape) → shape_in v m ≡ Some shape → shape_names shape n ≡ true → IsNamed v n
  of_action : (u : Uid) (a : Application) → application_at v.actions u ≡ Some a → same_name u.type_name n ≡ true → IsNamed v n
  by_action : (u : Uid) (a : Application) → application_at v.actions u ≡ Some a → application_names a n ≡ true → IsNamed v n

-- nothing is told but for want of memory, or of a name in it that no policy can write
abbrev pub TellsNamed : ValidatorSchema → SchemaNameError → Type 0
TellsNamed v (error.UnwritableName n) = IsNamed v n × (is_writable n ≡ false)
TellsNamed v error.Memory = ⊤

-- ---- parts

abbrev pub IsUidOf : Uid → Result Uid SchemaNameError → Type 0
IsUidOf u r = MatchResult r (λ w. w ≡ u) (TellsName (same_name u.type_name))

abbrev pub AreWritten : List Name → Result (Vec Name) SchemaNameError → Type 0
AreWritten ns r = MatchResult r (λ xs. xs.items ≡ ns) (TellsName (is_among ns))

abbrev pub ConvertsTags : Option CedarType → Result (Option ExprType) SchemaNameError → Type 0
ConvertsTags o r = MatchResult r (λ p. option_map type_view p ≡ o) (TellsName (tags_name o))

abbrev pub ConvertsShape : typing.EntityShape → Result EntityShape SchemaNameError → Type 0
ConvertsShape s r = MatchResult r (λ x. shape_view x ≡ s) (TellsName (shape_names s))

-- what an action applies to
abbrev pub action_view : ActionTypes → Application
action_view a = record { principals = a.principals.items; resources = a.resources.items; context = fields_view a.context.value.items }

abbrev pub ConvertsAction : Application → Result ActionTypes SchemaNameError → Type 0
ConvertsAction a r = MatchResult r (λ x. action_view x ≡ a) (TellsName (application_names a))

-- the shape of an entity type, if it has one
abbrev pub shape_at : BTreeMap Name EntityShape → Name → Option typing.EntityShape
shape_at m n = option_map shape_view (get name_cmp m n)

-- what an action applies to, if it is declared
abbrev pub action_at : BTreeMap Uid ActionTypes → Uid → Option Application
action_at m u = option_map action_view (get uid_cmp m u)

-- ---- the whole

-- the schema that typing sees, with these extension functions
abbrev pub types_view : (Name → Option typing.Signature) → SchemaTypes → typing.Schema
types_view signature t = record {
  entity = shape_at t.shapes;
  may_name = (schema_view signature t.schema).may_name;
  may_reach = (schema_view signature t.schema).may_reach;
  is_action = λ u. is_some (action_at t.actions u);
  action_reaches = (schema_view signature t.schema).action_reaches;
  applies = λ u. applies_in (action_at t.actions u);
  context = λ u. option_map_or (λ a. a.context) (action_at t.actions u) (fields_view t.no_context.value.items);
  signature = signature;
}

-- the kinds of requests: of each action, one for each type of a principal and each of a resource
abbrev pub requests_in : List (Uid × ActionTypes) → List environments.Application
requests_in [] = []
requests_in (e ∷ es) = environments.pairs e.0 e.1.principals.items e.1.resources.items ++ requests_in es
