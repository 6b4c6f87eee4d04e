-- What typing promises.
use Rattle.std.specs.Prelude.{◌≡◌, ◌≢◌, Bool, true, []}
use Rattle.cedar_language.specs.Tree.{Boolean, Tree}
use Rattle.cedar_language.specs.Value.{Plain, Kind, EntityDoesNotExist, IntegerOverflow, FailedExtensionFunctionExecution, Outcome, Gives, Fails}
use Rattle.cedar_language.specs.Facts.{Facts}
use Rattle.cedar_language.specs.Meaning.{Request, meaning}
use Rattle.cedar_language.specs.Answering.{Satisfied, Erring}
use Rattle.cedar_language.specs.Authorization.{Policy, Known, request_at, judged}
use Rattle.cedar_typing.specs.Types.{BoolType, AlwaysFalse, CedarType, Booleans}
use Rattle.cedar_typing.specs.Capabilities.{Capabilities, AllHold}
use Rattle.cedar_typing.specs.Schema.{Schema, Environment, SlotTypes, IsEnvironment}
use Rattle.cedar_typing.specs.Results.{HasType}
use Rattle.cedar_typing.specs.Typing.{type_of}
use Rattle.cedar_typing.specs.Conforming.{IsOf, Conforms, IsRequestOf}

-- the kinds of errors that types don't rule out
abbrev pub TypesAllow : Kind → Type 0
TypesAllow EntityDoesNotExist = Unit {0}
TypesAllow IntegerOverflow = Unit {0}
TypesAllow FailedExtensionFunctionExecution = Unit {0}
TypesAllow k = ⊥

-- a value of the type, by whose truth the capabilities hold; or such an error
abbrev pub IsSound : Facts → Request → CedarType → Capabilities → Outcome → Type 0
IsSound facts request t c (Gives v) = IsOf t v × (v ≡ Plain (Boolean true) → AllHold facts request c)
IsSound facts request t c (Fails k) = TypesAllow k

-- what has a type means a value of it, or errs by a kind that types don't rule out
abbrev pub TypesAreSound : Type 0
TypesAreSound =
    (e : Environment) (facts : Facts) (request : Request) → Conforms e.schema facts → IsRequestOf e request →
    (x : Tree) (c d : Capabilities) (t : CedarType) → AllHold facts request c → type_of e x c ≡ HasType t d → IsSound facts request t d
    (meaning facts request x)

-- ---- policies

-- a condition that is Boolean in an environment
abbrev pub IsValidIn : Environment → Tree → Type 0
IsValidIn e x = (t : BoolType) × (d : Capabilities) × (type_of e x [] ≡ HasType (Booleans t) d)

-- a condition that is so in each environment of a schema, whatever types its slots' entities may have
abbrev pub IsValid : Schema → SlotTypes → Tree → Type 0
IsValid schema may x = (e : Environment) → IsEnvironment schema may e → IsValidIn e x

abbrev pub IsBooleanOrAllowed : Outcome → Type 0
IsBooleanOrAllowed (Gives v) = (b : Bool) × (v ≡ Plain (Boolean b))
IsBooleanOrAllowed (Fails k) = TypesAllow k

-- a valid condition means a Boolean in each request of the schema, or errs by a kind that types don't rule out
abbrev pub ValidatedPoliciesErrOnlyBy : Type 0
ValidatedPoliciesErrOnlyBy =
    (schema : Schema) (facts : Facts) → Conforms schema facts → (may : SlotTypes) (x : Tree) → IsValid schema may x →
    (e : Environment) → IsEnvironment schema may e → (request : Request) → IsRequestOf e request →
    IsBooleanOrAllowed (meaning facts request x)

-- the same of policies in force: each that is valid errs only so
abbrev pub ValidPoliciesStand : Type 0
ValidPoliciesStand =
    (schema : Schema) (facts : Facts) → Conforms schema facts → (may : SlotTypes) (p : Policy) → IsValid schema may p.condition →
    (e : Environment) → IsEnvironment schema may e → (q : Known) → IsRequestOf e (request_at q p.slots) →
    (k : Kind) → (judged facts q p).standing ≡ Erring k → TypesAllow k

-- no valid policy errs by this kind
abbrev pub NeverErrsBy : Kind → Type 0
NeverErrsBy k =
    (schema : Schema) (facts : Facts) → Conforms schema facts → (may : SlotTypes) (p : Policy) → IsValid schema may p.condition →
    (e : Environment) → IsEnvironment schema may e → (q : Known) → IsRequestOf e (request_at q p.slots) →
    (judged facts q p).standing ≢ Erring k

-- a condition that is never true in an environment
abbrev pub IsImpossibleIn : Environment → Tree → Type 0
IsImpossibleIn e x = (d : Capabilities) × (type_of e x [] ≡ HasType (Booleans AlwaysFalse) d)

-- a policy that is told to be impossible is never satisfied
abbrev pub ImpossiblePoliciesAreNeverSatisfied : Type 0
ImpossiblePoliciesAreNeverSatisfied =
    (schema : Schema) (facts : Facts) → Conforms schema facts → (may : SlotTypes) (p : Policy) →
    ((e : Environment) → IsEnvironment schema may e → IsImpossibleIn e p.condition) →
    (e : Environment) → IsEnvironment schema may e → (q : Known) → IsRequestOf e (request_at q p.slots) →
    (judged facts q p).standing ≢ Satisfied
