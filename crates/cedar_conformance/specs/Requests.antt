-- Why a request doesn't conform to a schema, by what is known of it: a missing part is held to the type that is stated of it, and what is left of a
-- context to nothing until it is whole.
use Rattle.std.specs.Prelude.{Bool, cond, ◌||◌, List, Option, Some, None, is_some, option_map}
use Rattle.std.specs.List.{list_any}
use Rattle.either.specs.declared.Either.{Either}
use Rattle.either.specs.declared.Either.TheVariants.{Left, Right}
use Rattle.cedar_language.specs.Uid.{Name, Uid}
use Rattle.cedar_language.specs.Tree.{Tree}
use Rattle.cedar_language.specs.Value.{Value}
use Rattle.cedar_language.specs.Order.{same_name}
use Rattle.cedar_typing.specs.Types.{Records}
use Rattle.cedar_typing.specs.Deciding.{is_value_of}
use Rattle.cedar_schema_grammar.specs.Declared.{or_else}
use Rattle.cedar_validator_schema.specs.Applying.{Application}
use Rattle.cedar_validator_schema.specs.EntityTypes.{ids_at}
use Rattle.cedar_validator_schema.specs.Actions.{application_at}
use Rattle.cedar_validator_schema.specs.Views.{shape_in}
use Rattle.cedar_validator_schema.specs.declared.schema.ValidatorSchema.{ValidatorSchema}
use Rattle.cedar_requests.specs.Parts.{uid_given, type_stated}
use Rattle.cedar_requests.specs.Holding.{RequestParts}

pub data RequestFault : Type 0 where
  UndeclaredPrincipalType : Name → RequestFault
  UndeclaredResourceType : Name → RequestFault
  UndeclaredAction : Uid → RequestFault
  InvalidPrincipalType : Name → Uid → RequestFault
  InvalidResourceType : Name → Uid → RequestFault
  InvalidContext : Uid → RequestFault
  InvalidEnumEntity : Uid → RequestFault

abbrev pub unless : Bool → RequestFault → Option RequestFault
unless holds fault = cond holds None (Some fault)

-- the type is declared
abbrev pub type_fault : ValidatorSchema → (Name → RequestFault) → Option Name → Option RequestFault
type_fault v fault None = None
type_fault v fault (Some n) = unless (is_some (shape_in v n)) (fault n)

-- a policy may name the entity: of an enumeration, it is listed
abbrev pub listed_fault : (Uid → Bool) → Option Uid → Option RequestFault
listed_fault may_name None = None
listed_fault may_name (Some u) = unless (may_name u) (InvalidEnumEntity u)

-- the action takes entities of the type
abbrev pub takers_fault : List Name → (Name → RequestFault) → Option Name → Option RequestFault
takers_fault takes fault None = None
takers_fault takes fault (Some n) = unless (list_any (same_name n) takes) (fault n)

-- the action is declared, and takes principals and resources of the types
abbrev pub applied_fault : Option Application → Uid → Option Name → Option Name → Option RequestFault
applied_fault None action principal resource = Some (UndeclaredAction action)
applied_fault (Some a) action principal resource =
    or_else (takers_fault a.principals (λ n. InvalidPrincipalType n action) principal) (takers_fault a.resources (λ n. InvalidResourceType n action) resource)

-- and the context is a record as the action declares it; what is left of one is held to nothing
abbrev pub context_fault : Option Application → Uid → Either Value Tree → Option RequestFault
context_fault None action c = Some (UndeclaredAction action)
context_fault (Some a) action (Left c) = unless (is_value_of (Records a.context) c) (InvalidContext action)
context_fault (Some a) action (Right t) = None

-- ---- a whole request

-- the entities that a policy may name
abbrev pub may_name_in : ValidatorSchema → Uid → Bool
may_name_in v u = ids_at v.entity_types u.type_name u.id || is_some (application_at v.actions u)

-- the types that are declared come first, then the entities that are listed, and then what the action applies to
abbrev pub types_fault : ValidatorSchema → Option Name → Option Name → Option RequestFault
types_fault v principal resource = or_else (type_fault v UndeclaredPrincipalType principal) (type_fault v UndeclaredResourceType resource)

abbrev pub uids_fault : ValidatorSchema → Option Uid → Option Uid → Option RequestFault
uids_fault v principal resource = or_else (listed_fault (may_name_in v) principal) (listed_fault (may_name_in v) resource)

abbrev pub application_fault : Option Application → Uid → Option Name → Option Name → Option (Either Value Tree) → Option RequestFault
application_fault o action principal resource None = applied_fault o action principal resource
application_fault o action principal resource (Some c) = or_else (applied_fault o action principal resource) (context_fault o action c)

abbrev pub action_fault : ValidatorSchema → Option Name → Option Uid → Option Name → Option (Either Value Tree) → Option RequestFault
action_fault v principal None resource c = None
action_fault v principal (Some action) resource c = application_fault (application_at v.actions action) action principal resource c

abbrev pub fault_by : ValidatorSchema → Option Name → Option Uid → Option Uid → Option Name → Option Uid → Option (Either Value Tree) → Option RequestFault
fault_by v principal_type principal action resource_type resource context =
    or_else (types_fault v principal_type resource_type)
    (or_else (uids_fault v principal resource) (action_fault v principal_type action resource_type context))

abbrev pub request_fault : ValidatorSchema → RequestParts → Option RequestFault
request_fault v r =
    fault_by v (type_stated r.principal) (uid_given r.principal) (uid_given r.action) (type_stated r.resource) (uid_given r.resource) r.context

-- the same of a scope alone
abbrev pub scope_fault : ValidatorSchema → Option Uid → Option Uid → Option Uid → Option RequestFault
scope_fault v principal action resource =
    fault_by v (option_map (λ u. u.type_name) principal) principal action (option_map (λ u. u.type_name) resource) resource None
