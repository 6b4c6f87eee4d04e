-- The type of an expression in an environment, under given capabilities. (Cedar language reference, "Policy validation".)
use Rattle.std.specs.Prelude.{List, [], ◌∷◌, ◌++◌}
use Rattle.cedar_language.specs.Tree.{Operator, Not, Neg, IsEmpty, Equal, Less, LessEq, Add, Sub, Mul, In, Contains, ContainsAll, ContainsAny, GetTag, HasTag, GetAttr, HasAttr, HasPath, Like, Is, MakeSet, MakeRecord, Call, Tree, Lit, Var, Slot, Unknown, If, And, Or, Apply, Trees, no_trees, a_tree}
use Rattle.cedar_typing.specs.Types.{CedarType}
use Rattle.cedar_typing.specs.Capabilities.{Capabilities}
use Rattle.cedar_typing.specs.Schema.{Environment}
use Rattle.cedar_typing.specs.Faults.{UnknownNotAllowed}
use Rattle.cedar_typing.specs.Results.{Typing, HasType, Faulty, Typings, HaveTypes, OneFaulty, plainly}
use Rattle.cedar_typing.specs.Leaves.{literal_type, variable_type, slot_type}
use Rattle.cedar_typing.specs.Lazies.{and_typing, or_typing, if_typing}
use Rattle.cedar_typing.specs.Plain.{not_type, neg_type, is_empty_type, less_type, arithmetic_type, contains_type, two_sets_type, like_type, is_type}
use Rattle.cedar_typing.specs.Relations.{equal_type, in_type}
use Rattle.cedar_typing.specs.Attributes.{attribute_type, has_attribute_type, has_path_type, get_tag_type, has_tag_type}
use Rattle.cedar_typing.specs.Containers.{set_type, fields_of, record_by, call_type}

-- ---- an operator, at its operands and their types

abbrev pub operator_type : Environment → Operator → Trees → List CedarType → Capabilities → Typing
operator_type e Not xs ts c = not_type ts
operator_type e Neg xs ts c = neg_type ts
operator_type e IsEmpty xs ts c = is_empty_type ts
operator_type e Equal xs ts c = equal_type e xs ts
operator_type e Less xs ts c = less_type ts
operator_type e LessEq xs ts c = less_type ts
operator_type e Add xs ts c = arithmetic_type ts
operator_type e Sub xs ts c = arithmetic_type ts
operator_type e Mul xs ts c = arithmetic_type ts
operator_type e In xs ts c = in_type e xs ts
operator_type e Contains xs ts c = contains_type ts
operator_type e ContainsAll xs ts c = two_sets_type ts
operator_type e ContainsAny xs ts c = two_sets_type ts
operator_type e GetTag xs ts c = get_tag_type e xs ts c
operator_type e HasTag xs ts c = has_tag_type e xs ts c
operator_type e (GetAttr a) xs ts c = attribute_type e a xs ts c
operator_type e (HasAttr a) xs ts c = has_attribute_type e a xs ts c
operator_type e (HasPath a as_) xs ts c = has_path_type e a as_ xs ts c
operator_type e (Like ps) xs ts c = like_type ts
operator_type e (Is n) xs ts c = is_type e.schema n ts
operator_type e MakeSet xs ts c = set_type ts
operator_type e (MakeRecord ks) xs ts c = record_by (fields_of ks ts)
operator_type e (Call f) xs ts c = call_type (e.schema.signature f) xs ts

abbrev pub more_types : Typing → Typings → Typings
more_types (HasType t c) (HaveTypes ts) = HaveTypes (t ∷ ts)
more_types (HasType t c) (OneFaulty k) = OneFaulty k
more_types (Faulty k) ts = OneFaulty k

abbrev pub apply_typing : Environment → Operator → Trees → Capabilities → Typings → Typing
apply_typing e op xs c (HaveTypes ts) = operator_type e op xs ts c
apply_typing e op xs c (OneFaulty k) = Faulty k

-- ---- the whole

abbrev mutual
  pub type_of : Environment → Tree → Capabilities → Typing
  type_of e (Lit l) c = literal_type e.schema l
  type_of e (Var v) c = plainly (variable_type e v)
  type_of e (Slot s) c = slot_type (e.slot s)
  type_of e (Unknown n ty) c = Faulty UnknownNotAllowed
  type_of e (If t y n) c = if_typing (type_of e t c) (λ d. type_of e y (d ++ c)) (type_of e n c)
  type_of e (And l r) c = and_typing (type_of e l c) (λ d. type_of e r (d ++ c))
  type_of e (Or l r) c = or_typing (type_of e l c) (type_of e r c)
  type_of e (Apply op ts) c = apply_typing e op ts c (types_of e ts c)

  pub types_of : Environment → Trees → Capabilities → Typings
  types_of e no_trees c = HaveTypes []
  types_of e (a_tree t ts) c = more_types (type_of e t c) (types_of e ts c)
