-- Unknowns of a tree, and the types with which they are annotated.
use Rattle.std.specs.Prelude.{Bool, true, false, not, Option, Some, None}
use Rattle.cedar_language.specs.Uid.{Text, Name}
use Rattle.cedar_language.specs.Tree.{Boolean, Long, String, Entity, ValueType, Variable, SlotId, BooleanType, LongType, StringType, SetType, RecordType, EntityType, ExtensionType, Tree, Lit, Var, Slot, Unknown, If, And, Or, Apply, Trees, no_trees, a_tree}
use Rattle.cedar_language.specs.Value.{Value, Plain, SetOf, RecordOf, ExtensionOf}
use Rattle.cedar_language.specs.Order.{same_name}

-- the value is of this type: an entity and an extension value by the type's name
abbrev pub is_of_type : ValueType → Value → Bool
is_of_type BooleanType (Plain (Boolean b)) = true
is_of_type LongType (Plain (Long n)) = true
is_of_type StringType (Plain (String s)) = true
is_of_type SetType (SetOf vs) = true
is_of_type RecordType (RecordOf ks vs) = true
is_of_type (EntityType ty) (Plain (Entity u)) = same_name u.type_name ty
is_of_type (ExtensionType ty) (ExtensionOf e) = same_name e.type_name ty
is_of_type _ _ = false

-- a value for an unknown: one of its type, where a type is stated
abbrev pub fits : Option ValueType → Value → Bool
fits None v = true
fits (Some ty) v = is_of_type ty v

-- two types that are known, and differ
abbrev pub types_differ : Option Name → Option Name → Bool
types_differ (Some u) (Some w) = not (same_name u w)
types_differ (Some u) None = false
types_differ None o = false

-- what is asked of the leaves of a tree
pub record LeafTests : Type 1 where
  pub variable : Variable → Type 0
  pub slot : SlotId → Type 0
  pub unknown : Text → Option ValueType → Type 0

-- each leaf of the tree passes
abbrev mutual
  pub EachLeaf : LeafTests → Tree → Type 0
  EachLeaf test (Lit l) = Unit {0}
  EachLeaf test (Var v) = test.variable v
  EachLeaf test (Slot s) = test.slot s
  EachLeaf test (Unknown n ty) = test.unknown n ty
  EachLeaf test (If t y n) = EachLeaf test t × EachLeaf test y × EachLeaf test n
  EachLeaf test (And l r) = EachLeaf test l × EachLeaf test r
  EachLeaf test (Or l r) = EachLeaf test l × EachLeaf test r
  EachLeaf test (Apply op ts) = EachLeafOf test ts

  pub EachLeafOf : LeafTests → Trees → Type 0
  EachLeafOf test no_trees = Unit {0}
  EachLeafOf test (a_tree t ts) = EachLeaf test t × EachLeafOf test ts

-- unknowns alone are tested
abbrev pub of_unknowns : (Text → Option ValueType → Type 0) → LeafTests
of_unknowns Passes = record { variable = λ v. Unit {0}; slot = λ s. Unit {0}; unknown = Passes }

-- each unknown of the tree passes
abbrev pub EachUnknown : (Text → Option ValueType → Type 0) → Tree → Type 0
EachUnknown Passes t = EachLeaf (of_unknowns Passes) t

abbrev pub EachUnknownOf : (Text → Option ValueType → Type 0) → Trees → Type 0
EachUnknownOf Passes ts = EachLeafOf (of_unknowns Passes) ts
