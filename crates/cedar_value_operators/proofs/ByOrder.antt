-- `<` and `<=` by how values compare.
use Rattle.std.proofs.Common.{◌≡◌, Bool, true, false, cond, Some, None, refl}
use Rattle.std.specs.Option.{option_or}
use Rattle.std.specs.Ordering.{is_lt, is_le}
use Rattle.cedar_language.specs.Tree.{Boolean, Long, String, Entity}
use Rattle.cedar_language.specs.Value.{Value, Plain, SetOf, RecordOf, ExtensionOf, no_values, a_value, TypeError, Outcome, Fails}
use Rattle.cedar_language.specs.Operators.{truth, less_of, less_eq_of, are_comparable}
use Rattle.cedar_language.specs.Order.{text_cmp}
use Rattle.cedar_value_operators.specs.Operands.{at_operand}
use Rattle.cedar_value_operators.specs.Comparing.{Below, order_of}

chosen : (b : Bool) (f : Below → Outcome) (o : Below) → cond b (f o) (Fails TypeError) ≡ at_operand f (option_or None (cond b (Some o) None))
chosen true f o = refl
chosen false f o = refl

pub less_at : (v w : Value) → less_of (a_value v (a_value w no_values)) ≡ at_operand (λ o. truth o.0) (order_of v w)
less_at (Plain (Boolean b)) w = refl
less_at (Plain (Long x)) (Plain (Boolean b)) = refl
less_at (Plain (Long x)) (Plain (Long y)) = refl
less_at (Plain (Long x)) (Plain (String s)) = refl
less_at (Plain (Long x)) (Plain (Entity u)) = refl
less_at (Plain (Long x)) (SetOf vs) = refl
less_at (Plain (Long x)) (RecordOf ks vs) = refl
less_at (Plain (Long x)) (ExtensionOf e) = refl
less_at (Plain (String s)) w = refl
less_at (Plain (Entity u)) w = refl
less_at (SetOf vs) w = refl
less_at (RecordOf ks vs) w = refl
less_at (ExtensionOf e) (Plain l) = refl
less_at (ExtensionOf e) (SetOf vs) = refl
less_at (ExtensionOf e) (RecordOf ks vs) = refl
less_at (ExtensionOf e) (ExtensionOf f) = chosen (are_comparable e f) (λ o. truth o.0) (is_lt (text_cmp e.key f.key), is_le (text_cmp e.key f.key))

pub less_eq_at : (v w : Value) → less_eq_of (a_value v (a_value w no_values)) ≡ at_operand (λ o. truth o.1) (order_of v w)
less_eq_at (Plain (Boolean b)) w = refl
less_eq_at (Plain (Long x)) (Plain (Boolean b)) = refl
less_eq_at (Plain (Long x)) (Plain (Long y)) = refl
less_eq_at (Plain (Long x)) (Plain (String s)) = refl
less_eq_at (Plain (Long x)) (Plain (Entity u)) = refl
less_eq_at (Plain (Long x)) (SetOf vs) = refl
less_eq_at (Plain (Long x)) (RecordOf ks vs) = refl
less_eq_at (Plain (Long x)) (ExtensionOf e) = refl
less_eq_at (Plain (String s)) w = refl
less_eq_at (Plain (Entity u)) w = refl
less_eq_at (SetOf vs) w = refl
less_eq_at (RecordOf ks vs) w = refl
less_eq_at (ExtensionOf e) (Plain l) = refl
less_eq_at (ExtensionOf e) (SetOf vs) = refl
less_eq_at (ExtensionOf e) (RecordOf ks vs) = refl
less_eq_at (ExtensionOf e) (ExtensionOf f) = chosen (are_comparable e f) (λ o. truth o.1) (is_lt (text_cmp e.key f.key), is_le (text_cmp e.key f.key))
