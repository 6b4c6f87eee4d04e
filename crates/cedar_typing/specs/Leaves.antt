-- The types of leaves.
use Rattle.std.specs.Prelude.{Bool, true, false, cond, Option, Some, None}
use Rattle.cedar_language.specs.Uid.{Name, Uid}
use Rattle.cedar_language.specs.Tree.{Literal, Boolean, Long, String, Entity, Variable, Principal, Action, Resource, Context}
use Rattle.cedar_typing.specs.Types.{CedarType, Longs, Strings, Entities, Records}
use Rattle.cedar_typing.specs.Schema.{EntityShape, Schema, is_action_type, Environment}
use Rattle.cedar_typing.specs.Faults.{TypingFault, UnrecognizedEntityType, UnrecognizedActionId, InvalidEnumEntity, UnboundSlot}
use Rattle.cedar_typing.specs.Results.{Typing, Faulty, plainly, known}

-- what is told of an entity that isn't listed, and of one whose type isn't declared
abbrev pub unlisted : Name → TypingFault
unlisted n = cond (is_action_type n) UnrecognizedActionId InvalidEnumEntity

abbrev pub undeclared : Name → TypingFault
undeclared n = cond (is_action_type n) UnrecognizedActionId UnrecognizedEntityType

abbrev pub where_named : Bool → Name → Typing
where_named true n = plainly (Entities n)
where_named false n = Faulty (unlisted n)

abbrev pub uid_type : Schema → Option EntityShape → Uid → Typing
uid_type s (Some shape) u = where_named (s.may_name u) u.type_name
uid_type s None u = Faulty (undeclared u.type_name)

abbrev pub literal_type : Schema → Literal → Typing
literal_type s (Boolean b) = known b
literal_type s (Long n) = plainly Longs
literal_type s (String t) = plainly Strings
literal_type s (Entity u) = uid_type s (s.entity u.type_name) u

abbrev pub variable_type : Environment → Variable → CedarType
variable_type e Principal = Entities e.principal
variable_type e Action = Entities e.action.type_name
variable_type e Resource = Entities e.resource
variable_type e Context = Records (e.schema.context e.action)

-- a slot, by what it is bound to
abbrev pub slot_type : Option Name → Typing
slot_type (Some n) = plainly (Entities n)
slot_type None = Faulty UnboundSlot
