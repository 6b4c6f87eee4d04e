-- Types of values: their order, and what they feed a hasher.
use Rattle.std.specs.Prelude.{◌≡◌, ◌++◌, [], ◌∷◌, List, ℕ, zero, suc, pos, Bool, codes, refl}
use Rattle.std.specs.declared.cmp.Ordering.{Ordering}
use Rattle.std.specs.Ordering.{on, eq_by_cmp}
use Rattle.std.specs.Bool.{Decides}
use Rattle.std.specs.Cmp.{IsTotalOrder}
use Rattle.std.specs.FinMap.{IsAntisymmetric}
use Rattle.std.specs.Hash as fed
use Rattle.std.specs.Hash.{HashWrites, Alike, same_Alike, on_Alike}
use Rattle.std.proofs.lemmas.Cmp.{on_total}
use Rattle.cedar_language.specs.Uid.{Text, Name}
use Rattle.cedar_language.specs.Tree.{Literal, Boolean, Long, String, Entity}
use Rattle.cedar_language.specs.Tree.{ValueType, BooleanType, LongType, StringType, SetType, RecordType, EntityType, ExtensionType}
use Rattle.cedar_language.specs.Order.{Head, head, head_cmp}
use Rattle.cedar_names.specs.Names.{name_text, name_hash}
use Rattle.cedar_literals.specs.Heads.{head_cmp_total, by_head_same, order_decides}
use Rattle.cedar_literals.specs.declared.types.Type as code
use Rattle.cedar_literals.specs.declared.types.Type.TheVariants as kind

-- a type, as the language has it
abbrev pub value_type_of : code.Type → ValueType
value_type_of kind.Bool = BooleanType
value_type_of kind.Long = LongType
value_type_of kind.String = StringType
value_type_of kind.Set = SetType
value_type_of kind.Record = RecordType
value_type_of (kind.Entity ty) = EntityType ty
value_type_of (kind.Extension name) = ExtensionType name

-- the type of a literal
abbrev pub literal_type : Literal → ValueType
literal_type (Boolean b) = BooleanType
literal_type (Long n) = LongType
literal_type (String s) = StringType
literal_type (Entity u) = EntityType u.type_name

-- how a type is written
abbrev pub type_text : ValueType → Text
type_text BooleanType = codes "bool"
type_text LongType = codes "long"
type_text StringType = codes "string"
type_text SetType = codes "set"
type_text RecordType = codes "record"
type_text (EntityType n) = codes "(entity of type `" ++ name_text n ++ codes "`)"
type_text (ExtensionType n) = name_text n

abbrev pub type_head : ValueType → Head
type_head BooleanType = head 0 (pos 0) [] []
type_head LongType = head 1 (pos 0) [] []
type_head StringType = head 2 (pos 0) [] []
type_head SetType = head 3 (pos 0) [] []
type_head RecordType = head 4 (pos 0) [] []
type_head (EntityType n) = head 5 (pos 0) (n ∷ []) []
type_head (ExtensionType n) = head 6 (pos 0) (n ∷ []) []

-- by kind, and then by name
abbrev pub type_cmp : ValueType → ValueType → Ordering
type_cmp = on type_head head_cmp

abbrev pub same_type : ValueType → ValueType → Bool
same_type = eq_by_cmp type_cmp

-- the number of its kind, and its name
abbrev pub type_hash : ValueType → HashWrites
type_hash BooleanType = fed.u8 0
type_hash LongType = fed.u8 1
type_hash StringType = fed.u8 2
type_hash SetType = fed.u8 3
type_hash RecordType = fed.u8 4
type_hash (EntityType n) = fed.u8 5 ++ name_hash n
type_hash (ExtensionType n) = fed.u8 6 ++ name_hash n

pub type_cmp_total : IsTotalOrder type_cmp
type_cmp_total = on_total type_head head_cmp_total

abbrev first_name : List Name → Name
first_name [] = []
first_name (n ∷ ns) = n

abbrev type_at : ℕ → List Name → ValueType
type_at zero ns = BooleanType
type_at (suc zero) ns = LongType
type_at (suc (suc zero)) ns = StringType
type_at (suc (suc (suc zero))) ns = SetType
type_at (suc (suc (suc (suc zero)))) ns = RecordType
type_at (suc (suc (suc (suc (suc zero))))) ns = EntityType (first_name ns)
type_at _ ns = ExtensionType (first_name ns)

abbrev type_from : Head → ValueType
type_from h = type_at h.kind h.names

type_back : (t : ValueType) → type_from (type_head t) ≡ t
type_back BooleanType = refl
type_back LongType = refl
type_back StringType = refl
type_back SetType = refl
type_back RecordType = refl
type_back (EntityType n) = refl
type_back (ExtensionType n) = refl

pub type_cmp_same : IsAntisymmetric type_cmp
type_cmp_same = by_head_same type_head type_from type_back

pub same_type_decides : (t u : ValueType) → Decides (same_type t u) (t ≡ u)
same_type_decides = order_decides type_cmp_total type_cmp_same

-- the same, at the types of the code
abbrev pub order_of_types : code.Type → code.Type → Ordering
order_of_types = on value_type_of type_cmp

pub types_total : IsTotalOrder order_of_types
types_total = on_total value_type_of type_cmp_total

pub types_alike : Alike (eq_by_cmp order_of_types) (λ t. type_hash (value_type_of t))
types_alike = on_Alike value_type_of (same_Alike type_hash same_type_decides)
