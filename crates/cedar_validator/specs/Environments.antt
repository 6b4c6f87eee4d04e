-- The environments of a schema, in code.
use Rattle.std.specs.Prelude.{◌≡◌, ◌&&◌, Bool, true, false, Option, Some, None}
use Rattle.cedar_language.specs.Uid.{Name}
use Rattle.cedar_language.specs.Order.{same_name, same_uid}
use Rattle.cedar_language.specs.Tree.{SlotId, PrincipalSlot, ResourceSlot}
use Rattle.cedar_typing.specs.Schema.{Schema, Environment, SlotTypes}
use Rattle.cedar_schema_grammar.specs.Environments.{Application, application}
use Rattle.cedar_validator.specs.declared.environments.RequestType.{RequestType}
use Rattle.cedar_validator.specs.declared.environments.BoundTypes.{BoundTypes}

abbrev pub request_view : RequestType → Application
request_view r = application r.action.value r.principal r.resource

-- the types of what slots are bound to
abbrev pub slots_view : BoundTypes → SlotId → Option Name
slots_view b PrincipalSlot = b.principal
slots_view b ResourceSlot = b.resource

-- the environment of a kind of requests, with slots bound so
abbrev pub environment_of : Schema → (SlotId → Option Name) → Application → Environment
environment_of s slots a = record { schema = s; principal = a.principal; action = a.action; resource = a.resource; slot = slots }

abbrev pub same_option : Option Name → Option Name → Bool
same_option (Some n) (Some m) = same_name n m
same_option None None = true
same_option x y = false

-- slots are bound to entities of just these types
abbrev pub just_these : (SlotId → Option Name) → SlotTypes
just_these slots s o = same_option (slots s) o

abbrev pub same_request : Application → Application → Bool
same_request x y = same_uid x.action y.action && (same_name x.principal y.principal && same_name x.resource y.resource)
