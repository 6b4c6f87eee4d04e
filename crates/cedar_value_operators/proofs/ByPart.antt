-- `like` and `is`, by what their operands are.
use Rattle.std.proofs.Common.{◌≡◌, List, refl, chars}
use Rattle.cedar_language.specs.Uid.{Name}
use Rattle.cedar_language.specs.Order.{same_name}
use Rattle.cedar_language.specs.Pattern.{matches}
use Rattle.cedar_language.specs.Tree.{Boolean, Long, String, Entity, PatternElem}
use Rattle.cedar_language.specs.Value.{Value, Plain, SetOf, RecordOf, ExtensionOf, no_values, a_value}
use Rattle.cedar_language.specs.Operators.{truth, like_of, is_of}
use Rattle.cedar_value_operators.specs.Operands.{text_in, uid_in, at_operand}

pub like_at : (ps : List PatternElem) (v : Value) → like_of ps (a_value v no_values) ≡ at_operand (λ s. truth (matches ps (chars s))) (text_in v)
like_at ps (Plain (Boolean b)) = refl
like_at ps (Plain (Long n)) = refl
like_at ps (Plain (String s)) = refl
like_at ps (Plain (Entity u)) = refl
like_at ps (SetOf vs) = refl
like_at ps (RecordOf ks vs) = refl
like_at ps (ExtensionOf e) = refl

pub is_at : (n : Name) (v : Value) → is_of n (a_value v no_values) ≡ at_operand (λ u. truth (same_name u.type_name n)) (uid_in v)
is_at n (Plain (Boolean b)) = refl
is_at n (Plain (Long m)) = refl
is_at n (Plain (String s)) = refl
is_at n (Plain (Entity u)) = refl
is_at n (SetOf vs) = refl
is_at n (RecordOf ks vs) = refl
is_at n (ExtensionOf e) = refl
