-- Values of types, and what it means for facts and a request to conform to a schema.
use Rattle.std.specs.Prelude.{◌≡◌, ℤ, Bool, true, false, List, [], ◌∷◌, Option, Some, None}
use Rattle.cedar_language.specs.Uid.{Text, Name, Uid}
use Rattle.cedar_language.specs.Tree.{Boolean, Long, String, Entity, Variable, Action, SlotId, ValueType, BooleanType, LongType, StringType, SetType, RecordType, EntityType, ExtensionType}
use Rattle.cedar_language.specs.Value.{Extension, Value, Plain, SetOf, RecordOf, ExtensionOf, Values, no_values, a_value}
use Rattle.cedar_language.specs.Operators.{found, has_member, takes, count}
use Rattle.cedar_language.specs.Facts.{Held, Function, Facts}
use Rattle.cedar_language.specs.Meaning.{Request}
use Rattle.cedar_typing.specs.Types.{BoolType, AlwaysTrue, AlwaysFalse, Unsure, Presence, Required, Optional, CedarType, Booleans, Longs, Strings, Entities, Sets, Records, Extensions, Fields, no_fields, a_field, field_at}
use Rattle.cedar_typing.specs.Schema.{EntityShape, Signature, Schema, Environment}
use Rattle.cedar_typing.specs.Leaves.{variable_type}

abbrev pub IsBoolOf : BoolType → Bool → Type 0
IsBoolOf AlwaysTrue b = b ≡ true
IsBoolOf AlwaysFalse b = b ≡ false
IsBoolOf Unsure b = Unit {0}

-- what is found under a field's name
abbrev pub FitsAt : Presence → (Value → Type 0) → Option Value → Type 0
FitsAt Required P None = ⊥
FitsAt Optional P None = Unit {0}
FitsAt p P (Some v) = P v

-- nothing stands under a name that isn't declared
abbrev pub IsClosed : Fields → (Text → Option Value) → Type 0
IsClosed fs look = (a : Text) → field_at fs a ≡ None → look a ≡ None

-- a value of a type
abbrev mutual
  pub IsOf : CedarType → Value → Type 0
  IsOf (Booleans t) v = (b : Bool) × (v ≡ Plain (Boolean b)) × IsBoolOf t b
  IsOf Longs v = (n : ℤ) × (v ≡ Plain (Long n))
  IsOf Strings v = (s : Text) × (v ≡ Plain (String s))
  IsOf (Entities n) v = (u : Uid) × (v ≡ Plain (Entity u)) × (u.type_name ≡ n)
  IsOf (Sets t) v = (vs : Values) × (v ≡ SetOf vs) × ((w : Value) → has_member vs w ≡ true → IsOf t w)
  IsOf (Records fs) v = (ks : List Text) × (vs : Values) × (v ≡ RecordOf ks vs) × Fit fs (found ks vs) × IsClosed fs (found ks vs)
  IsOf (Extensions n o) v = (e : Extension) × (v ≡ ExtensionOf e) × (e.type_name ≡ n) × (e.ordered ≡ o)

  -- what is found under each declared name
  pub Fit : Fields → (Text → Option Value) → Type 0
  Fit no_fields look = Unit {0}
  Fit (a_field k p t fs) look = FitsAt p (IsOf t) (look k) × Fit fs look

-- values of types, one by one
abbrev pub AreOf : List CedarType → Values → Type 0
AreOf [] no_values = Unit {0}
AreOf (t ∷ ts) (a_value v vs) = IsOf t v × AreOf ts vs
AreOf ts vs = ⊥

-- ---- functions

-- a value that a function takes
abbrev pub IsTaken : ValueType → Value → Type 0
IsTaken BooleanType v = (b : Bool) × (v ≡ Plain (Boolean b))
IsTaken LongType v = (n : ℤ) × (v ≡ Plain (Long n))
IsTaken StringType v = (s : Text) × (v ≡ Plain (String s))
IsTaken SetType v = (vs : Values) × (v ≡ SetOf vs)
IsTaken RecordType v = (ks : List Text) × (vs : Values) × (v ≡ RecordOf ks vs)
IsTaken (EntityType n) v = (u : Uid) × (v ≡ Plain (Entity u)) × (u.type_name ≡ n)
IsTaken (ExtensionType n) v = (e : Extension) × (v ≡ ExtensionOf e) × (e.type_name ≡ n)

abbrev pub AreTaken : List ValueType → Values → Type 0
AreTaken [] no_values = Unit {0}
AreTaken (t ∷ ts) (a_value v vs) = IsTaken t v × AreTaken ts vs
AreTaken ts vs = ⊥

-- a function takes what its signature says, and answers by a value of the result's type, if by any
pub record HasSignature (g : Signature) (f : Function) : Type 0 where
  pub arity : (vs : Values) → AreTaken g.arguments vs → takes f.takes (count vs) ≡ true
  pub answers : (vs : Values) (v : Value) → AreTaken g.arguments vs → f.answer vs ≡ Some v → IsOf g.result v

-- ---- facts and requests

abbrev pub TagsFit : Option CedarType → (Text → Option Value) → Type 0
TagsFit None look = (k : Text) → look k ≡ None
TagsFit (Some t) look = (k : Text) (v : Value) → look k ≡ Some v → IsOf t v

-- an entity that is held, of a declared type
pub record IsShaped (s : EntityShape) (h : Held) : Type 0 where
  pub attributes : Fit s.attributes h.attribute
  pub closed : IsClosed s.attributes h.attribute
  pub tags : TagsFit s.tags h.tag

-- each entity that is held is as its type declares, ancestors are of types that may stand there, those of actions are as declared, and
-- functions keep their signatures
pub record Conforms (s : Schema) (facts : Facts) : Type 0 where
  pub entities : (u : Uid) (h : Held) (shape : EntityShape) → facts.entity u ≡ Some h → s.entity u.type_name ≡ Some shape → IsShaped shape h
  pub hierarchy : (u w : Uid) → facts.reaches u w ≡ true → s.may_reach u.type_name w.type_name ≡ true
  pub actions : (u w : Uid) → s.is_action u ≡ true → facts.reaches u w ≡ s.action_reaches u w
  pub functions : (n : Name) (g : Signature) → s.signature n ≡ Some g → (f : Function) × (facts.function n ≡ Some f) × HasSignature g f

-- a request of an environment: its variables are of the environment's types, its action is the environment's
pub record IsRequestOf (e : Environment) (r : Request) : Type 0 where
  pub variables : (v : Variable) → IsOf (variable_type e v) (r.variable v)
  pub action : r.variable Action ≡ Plain (Entity e.action)
  pub slots : (s : SlotId) (n : Name) → e.slot s ≡ Some n → (u : Uid) × (r.slots s ≡ Some u) × (u.type_name ≡ n)
