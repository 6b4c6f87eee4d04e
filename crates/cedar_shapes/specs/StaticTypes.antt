-- The type that a tree's value has, as far as the tree shows it. (Cedar language reference, "Data types".)
use Rattle.std.specs.Prelude.{cond, Option, Some, None}
use Rattle.cedar_language.specs.Uid.{Name}
use Rattle.cedar_language.specs.Tree.{ValueType, BooleanType, LongType, SetType, RecordType, Operator, Neg, Add, Sub, Mul, GetTag, GetAttr, MakeSet, MakeRecord, Call, Tree, Lit, Var, Slot, Unknown, If, And, Or, Apply}
use Rattle.cedar_literals.specs.Types.{same_type, literal_type}

-- a type that both sides have
abbrev pub agreed : Option ValueType → Option ValueType → Option ValueType
agreed (Some a) (Some b) = cond (same_type a b) (Some a) None
agreed a b = None

-- `returns`: the type of an extension function's answers, where it is stated
module _ (returns : Name → Option ValueType) where
  abbrev pub operator_type : Operator → Option ValueType
  operator_type Neg = Some LongType
  operator_type Add = Some LongType
  operator_type Sub = Some LongType
  operator_type Mul = Some LongType
  operator_type GetTag = None
  operator_type (GetAttr a) = None
  operator_type MakeSet = Some SetType
  operator_type (MakeRecord ks) = Some RecordType
  operator_type (Call f) = returns f
  operator_type op = Some BooleanType

  abbrev pub type_of : Tree → Option ValueType
  type_of (Lit l) = Some (literal_type l)
  type_of (Var v) = None
  type_of (Slot s) = None
  type_of (Unknown n ty) = ty
  type_of (If t y n) = agreed (type_of y) (type_of n)
  type_of (And l r) = Some BooleanType
  type_of (Or l r) = Some BooleanType
  type_of (Apply op ts) = operator_type op
