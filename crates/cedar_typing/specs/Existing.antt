-- Where each entity that may be read is held, nothing errs since an entity doesn't exist.
use Rattle.std.specs.Prelude.{◌≡◌, Option, Some}
use Rattle.cedar_language.specs.Uid.{Text, Name, Uid}
use Rattle.cedar_language.specs.Tree.{Literal, Entity, Variable, SlotId, ValueType, Tree, Lit, Var, Slot, Unknown, If, And, Or, Apply, Trees, no_trees, a_tree}
use Rattle.cedar_language.specs.Value.{Value, Plain, SetOf, RecordOf, ExtensionOf, Values, no_values, a_value, Kind, EntityDoesNotExist, IntegerOverflow, FailedExtensionFunctionExecution, Outcome, Gives, Fails}
use Rattle.cedar_language.specs.Facts.{Held, Function, Facts}
use Rattle.cedar_language.specs.Meaning.{Request, meaning}
use Rattle.cedar_language.specs.Answering.{Erring}
use Rattle.cedar_language.specs.Authorization.{Policy, Known, request_at, judged}
use Rattle.cedar_typing.specs.Schema.{Schema, Environment, SlotTypes, IsEnvironment}
use Rattle.cedar_typing.specs.Conforming.{Conforms, IsRequestOf}
use Rattle.cedar_typing.specs.Validated.{IsValid}

abbrev pub IsHeld : Facts → Uid → Type 0
IsHeld facts u = (h : Held) × (facts.entity u ≡ Some h)

-- ---- what names held entities alone

abbrev pub LiteralNamesHeld : Facts → Literal → Type 0
LiteralNamesHeld facts (Entity u) = IsHeld facts u
LiteralNamesHeld facts l = Unit {0}

-- a value
abbrev mutual
  pub NamesHeld : Facts → Value → Type 0
  NamesHeld facts (Plain l) = LiteralNamesHeld facts l
  NamesHeld facts (SetOf vs) = AllNameHeld facts vs
  NamesHeld facts (RecordOf ks vs) = AllNameHeld facts vs
  NamesHeld facts (ExtensionOf e) = Unit {0}

  pub AllNameHeld : Facts → Values → Type 0
  AllNameHeld facts no_values = Unit {0}
  AllNameHeld facts (a_value v vs) = NamesHeld facts v × AllNameHeld facts vs

-- a tree
abbrev mutual
  pub TreeNamesHeld : Facts → Tree → Type 0
  TreeNamesHeld facts (Lit l) = LiteralNamesHeld facts l
  TreeNamesHeld facts (Var v) = Unit {0}
  TreeNamesHeld facts (Slot s) = Unit {0}
  TreeNamesHeld facts (Unknown n ty) = Unit {0}
  TreeNamesHeld facts (If t y n) = TreeNamesHeld facts t × TreeNamesHeld facts y × TreeNamesHeld facts n
  TreeNamesHeld facts (And l r) = TreeNamesHeld facts l × TreeNamesHeld facts r
  TreeNamesHeld facts (Or l r) = TreeNamesHeld facts l × TreeNamesHeld facts r
  TreeNamesHeld facts (Apply op ts) = TreesNameHeld facts ts

  pub TreesNameHeld : Facts → Trees → Type 0
  TreesNameHeld facts no_trees = Unit {0}
  TreesNameHeld facts (a_tree t ts) = TreeNamesHeld facts t × TreesNameHeld facts ts

-- a result: not the error that an entity doesn't exist
abbrev pub OutcomeNamesHeld : Facts → Outcome → Type 0
OutcomeNamesHeld facts (Gives v) = NamesHeld facts v
OutcomeNamesHeld facts (Fails EntityDoesNotExist) = ⊥
OutcomeNamesHeld facts (Fails k) = Unit {0}

-- what is held of entities, and what functions answer to such values
pub record FactsNameHeld (facts : Facts) : Type 0 where
  pub attributes : (u : Uid) (h : Held) (a : Text) (v : Value) → facts.entity u ≡ Some h → h.attribute a ≡ Some v → NamesHeld facts v
  pub tags : (u : Uid) (h : Held) (k : Text) (v : Value) → facts.entity u ≡ Some h → h.tag k ≡ Some v → NamesHeld facts v
  pub functions : (n : Name) (f : Function) (vs : Values) (v : Value) → facts.function n ≡ Some f → AllNameHeld facts vs → f.answer vs ≡ Some v →
      NamesHeld facts v

-- a request
pub record RequestNamesHeld (facts : Facts) (r : Request) : Type 0 where
  pub variables : (v : Variable) → NamesHeld facts (r.variable v)
  pub unknowns : (n : Text) (ty : Option ValueType) → OutcomeNamesHeld facts (r.unknown n ty)
  pub slots : (s : SlotId) (u : Uid) → r.slots s ≡ Some u → IsHeld facts u

-- ---- what follows

-- where all that is named is held, what is meant names held entities alone, and doesn't err since one doesn't exist; no types are needed
abbrev pub HeldEntitiesExist : Type 0
HeldEntitiesExist =
    (facts : Facts) → FactsNameHeld facts → (request : Request) → RequestNamesHeld facts request → (x : Tree) → TreeNamesHeld facts x →
    OutcomeNamesHeld facts (meaning facts request x)

-- the kinds of errors that are left
abbrev pub IsOfArithmeticOrCalls : Kind → Type 0
IsOfArithmeticOrCalls IntegerOverflow = Unit {0}
IsOfArithmeticOrCalls FailedExtensionFunctionExecution = Unit {0}
IsOfArithmeticOrCalls k = ⊥

-- a valid policy errs only so there
abbrev pub ValidPoliciesStandOverHeld : Type 0
ValidPoliciesStandOverHeld =
    (schema : Schema) (facts : Facts) → Conforms schema facts → FactsNameHeld facts →
    (may : SlotTypes) (p : Policy) → IsValid schema may p.condition → TreeNamesHeld facts p.condition →
    (e : Environment) → IsEnvironment schema may e →
    (q : Known) → IsRequestOf e (request_at q p.slots) → RequestNamesHeld facts (request_at q p.slots) →
    (k : Kind) → (judged facts q p).standing ≡ Erring k → IsOfArithmeticOrCalls k
