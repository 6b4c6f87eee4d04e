-- Conditions that are typed in each environment.
use Rattle.std.specs.Prelude.{⊤, Bool, true, false, [], Option, option_map, Result, Ok, Err}
use Rattle.cedar_language.specs.Uid.{Name}
use Rattle.cedar_language.specs.Tree.{SlotId, Tree}
use Rattle.cedar_language.specs.Facts.{Facts}
use Rattle.cedar_language.specs.Meaning.{Request, meaning}
use Rattle.cedar_grammar.specs.Bindings.{Bindings, binding_of}
use Rattle.cedar_typing.specs.Types.{CedarType, Booleans, Longs, Strings, Entities, Sets, Records, Extensions}
use Rattle.cedar_typing.specs.Schema.{Schema, Environment, SlotTypes, IsEnvironment}
use Rattle.cedar_typing.specs.Conforming.{Conforms, IsRequestOf}
use Rattle.cedar_typing.specs.Validated.{IsBooleanOrAllowed}
use Rattle.cedar_typing.specs.Results.{Typing, HasType, Faulty}
use Rattle.cedar_typing.specs.Typing.{type_of}
use Rattle.cedar_validator.specs.declared.refusals.ValidationRefusal.{ValidationRefusal}
use Rattle.cedar_validator.specs.declared.refusals.ValidationRefusal.TheVariants as refusal

abbrev pub is_boolean_type : CedarType → Bool
is_boolean_type (Booleans b) = true
is_boolean_type Longs = false
is_boolean_type Strings = false
is_boolean_type (Entities n) = false
is_boolean_type (Sets t) = false
is_boolean_type (Records fs) = false
is_boolean_type (Extensions n o) = false

abbrev pub is_boolean : Typing → Bool
is_boolean (HasType t c) = is_boolean_type t
is_boolean (Faulty k) = false

-- a condition that is Boolean in an environment
abbrev pub is_valid_in : Environment → Tree → Bool
is_valid_in e x = is_boolean (type_of e x [])

-- the answer is so; refused for depth only where it is too deep, or for memory
abbrev pub Answers : Type 0 → (Bool → Type 0) → Result Bool ValidationRefusal → Type 0
Answers deep P (Ok b) = P b
Answers deep P (Err refusal.Depth) = deep
Answers deep P (Err refusal.Memory) = ⊤

-- ---- policies

-- the types of the entities that slots are bound to
abbrev pub bound_types : Bindings → SlotId → Option Name
bound_types b s = option_map (λ u. u.type_name) (binding_of b s)

-- whatever conforming entities and requests come, it means a Boolean, or errs by a kind that types don't rule out
abbrev pub ErrsOnlyAsTypesAllow : Schema → SlotTypes → Tree → Type 0
ErrsOnlyAsTypesAllow s may x =
    (facts : Facts) → Conforms s facts → (e : Environment) → IsEnvironment s may e → (request : Request) → IsRequestOf e request →
    IsBooleanOrAllowed (meaning facts request x)
