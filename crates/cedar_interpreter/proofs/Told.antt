-- Values that are told for unknowns: the type that is stated, and what stands for an unknown.
use Rattle.std.proofs.Common.{◌≡◌, ◌∙◌, List, refl, ap, sym, true, false}
use Rattle.std.proofs.lemmas.Map.Text.{is_eq-slice_cmp}
use Rattle.std.specs.BTreeMap.{is_at}
use Rattle.std.specs.Prelude.{Some}
use Rattle.std.specs.Bool.{Decides, one_answer}
use Rattle.std.specs.Cmp.Lexicographic.{pointwise_decides, bytes_decides, slice_cmp}
use Rattle.std.specs.Map.{lookup}
use Rattle.std.specs.Ordering.{nat_cmp}
use Rattle.std.specs.Rc.{rc_str_bytes}
use Rattle.std.specs.Str.{bytes_eq}
use Rattle.std.specs.declared.alloc.Global.{Global}
use Rattle.std.specs.declared.rc.RcStr.{RcStr}
use Rattle.cedar_language.specs.Uid.{Text, Name}
use Rattle.cedar_language.specs.Tree.{Boolean, Long, String, Entity, ValueType, BooleanType, LongType, StringType, SetType, RecordType, EntityType, ExtensionType}
use Rattle.cedar_language.specs.Value.{Value, Plain, SetOf, RecordOf, ExtensionOf, TypeError}
use Rattle.cedar_language.specs.Order.{same_name}
use Rattle.cedar_literals.specs.Types.{same_type, same_type_decides}
use Rattle.cedar_values.specs.Types.{type_of_value}
use Rattle.cedar_partial_evaluation.specs.Partial.{Evaluated, Failed}
use Rattle.cedar_partial_evaluation.specs.Question.{value_held}
use Rattle.cedar_partial_evaluation.specs.Unknowns.{is_of_type, fits}

-- ---- what an ordered map finds by a text

pub looked_up : (name : Text) (told : List (RcStr Global × Value)) → lookup (is_at (λ k. slice_cmp nat_cmp name (rc_str_bytes k))) told ≡ lookup (λ k. bytes_eq name (rc_str_bytes k)) told
looked_up name told = λ i. lookup (λ k. is_eq-slice_cmp name (rc_str_bytes k) i) told

-- ---- a value is of a type where that is the value's

entity_inj : (m n : Name) → EntityType m ≡ EntityType n → m ≡ n
entity_inj m n e = cc

extension_inj : (m n : Name) → ExtensionType m ≡ ExtensionType n → m ≡ n
extension_inj m n e = cc

-- types with names go by their names
named : (make : Name → ValueType) → ((m n : Name) → make m ≡ make n → m ≡ n) → (m n : Name) → same_name n m ≡ same_type (make m) (make n)
named make inj m n =
    let same = pointwise_decides bytes_decides n m in
    let decides : Decides (same_name n m) (make m ≡ make n) = (λ h. ap make (sym (same.0 h)), λ e. same.1 (sym (inj m n e))) in
    one_answer (same_name n m) (same_type (make m) (make n)) decides (same_type_decides (make m) (make n))

pub typed_alike : (ty : ValueType) (v : Value) → is_of_type ty v ≡ same_type ty (type_of_value v)
typed_alike BooleanType (Plain (Boolean b)) = refl
typed_alike BooleanType (Plain (Long i)) = refl
typed_alike BooleanType (Plain (String s)) = refl
typed_alike BooleanType (Plain (Entity u)) = refl
typed_alike BooleanType (SetOf vs) = refl
typed_alike BooleanType (RecordOf ks vs) = refl
typed_alike BooleanType (ExtensionOf e) = refl
typed_alike LongType (Plain (Boolean b)) = refl
typed_alike LongType (Plain (Long i)) = refl
typed_alike LongType (Plain (String s)) = refl
typed_alike LongType (Plain (Entity u)) = refl
typed_alike LongType (SetOf vs) = refl
typed_alike LongType (RecordOf ks vs) = refl
typed_alike LongType (ExtensionOf e) = refl
typed_alike StringType (Plain (Boolean b)) = refl
typed_alike StringType (Plain (Long i)) = refl
typed_alike StringType (Plain (String s)) = refl
typed_alike StringType (Plain (Entity u)) = refl
typed_alike StringType (SetOf vs) = refl
typed_alike StringType (RecordOf ks vs) = refl
typed_alike StringType (ExtensionOf e) = refl
typed_alike SetType (Plain (Boolean b)) = refl
typed_alike SetType (Plain (Long i)) = refl
typed_alike SetType (Plain (String s)) = refl
typed_alike SetType (Plain (Entity u)) = refl
typed_alike SetType (SetOf vs) = refl
typed_alike SetType (RecordOf ks vs) = refl
typed_alike SetType (ExtensionOf e) = refl
typed_alike RecordType (Plain (Boolean b)) = refl
typed_alike RecordType (Plain (Long i)) = refl
typed_alike RecordType (Plain (String s)) = refl
typed_alike RecordType (Plain (Entity u)) = refl
typed_alike RecordType (SetOf vs) = refl
typed_alike RecordType (RecordOf ks vs) = refl
typed_alike RecordType (ExtensionOf e) = refl
typed_alike (EntityType n) (Plain (Boolean b)) = refl
typed_alike (EntityType n) (Plain (Long i)) = refl
typed_alike (EntityType n) (Plain (String s)) = refl
typed_alike (EntityType n) (Plain (Entity u)) = named EntityType entity_inj n u.type_name
typed_alike (EntityType n) (SetOf vs) = refl
typed_alike (EntityType n) (RecordOf ks vs) = refl
typed_alike (EntityType n) (ExtensionOf e) = refl
typed_alike (ExtensionType n) (Plain (Boolean b)) = refl
typed_alike (ExtensionType n) (Plain (Long i)) = refl
typed_alike (ExtensionType n) (Plain (String s)) = refl
typed_alike (ExtensionType n) (Plain (Entity u)) = refl
typed_alike (ExtensionType n) (SetOf vs) = refl
typed_alike (ExtensionType n) (RecordOf ks vs) = refl
typed_alike (ExtensionType n) (ExtensionOf e) = named ExtensionType extension_inj n e.type_name

module _ (ty : ValueType) (v : Value) where
  pub of_type : same_type ty (type_of_value v) ≡ true → value_held (fits (Some ty) v) v ≡ Evaluated v
  of_type is = ap (λ b. value_held b v) (typed_alike ty v ∙ is)

  pub of_other : same_type ty (type_of_value v) ≡ false → value_held (fits (Some ty) v) v ≡ Failed TypeError
  of_other is = ap (λ b. value_held b v) (typed_alike ty v ∙ is)
