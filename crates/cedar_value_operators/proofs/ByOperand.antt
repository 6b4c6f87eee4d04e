-- Operators by what their operands are.
use Rattle.std.proofs.Common.{◌≡◌, ◌↔◌, IsTrue, ℤ, ◌+ℤ◌, ◌-ℤ◌, ◌*ℤ◌, Bool, true, false, not, List, [], ◌∷◌, Some, refl, sym, ap, ◌∙◌}
use Rattle.std.specs.Prelude.{neg_ℤ}
use Rattle.cedar_language.specs.Tree.{Boolean, Long, String, Entity}
use Rattle.cedar_language.specs.Value.{Value, Plain, SetOf, RecordOf, ExtensionOf, Values, no_values, a_value, Outcome, Gives}
use Rattle.cedar_language.specs.Order.{all_of}
use Rattle.cedar_language.specs.Operators.{truth, checked, not_of, negated, is_empty, arithmetic}
use Rattle.cedar_value_operators.specs.Operands.{boolean_in, long_in, members_in, at_operand}

pub not_at : (v : Value) → not_of (a_value v no_values) ≡ at_operand (λ b. truth (not b)) (boolean_in v)
not_at (Plain (Boolean b)) = refl
not_at (Plain (Long n)) = refl
not_at (Plain (String s)) = refl
not_at (Plain (Entity u)) = refl
not_at (SetOf vs) = refl
not_at (RecordOf ks vs) = refl
not_at (ExtensionOf e) = refl

pub negated_at : (v : Value) → negated (a_value v no_values) ≡ at_operand (λ n. checked (neg_ℤ n)) (long_in v)
negated_at (Plain (Boolean b)) = refl
negated_at (Plain (Long n)) = refl
negated_at (Plain (String s)) = refl
negated_at (Plain (Entity u)) = refl
negated_at (SetOf vs) = refl
negated_at (RecordOf ks vs) = refl
negated_at (ExtensionOf e) = refl

abbrev pub no_member : Values → Outcome
no_member no_values = truth true
no_member (a_value v vs) = truth false

pub is_empty_at : (v : Value) → is_empty (a_value v no_values) ≡ at_operand no_member (members_in v)
is_empty_at (Plain (Boolean b)) = refl
is_empty_at (Plain (Long n)) = refl
is_empty_at (Plain (String s)) = refl
is_empty_at (Plain (Entity u)) = refl
is_empty_at (SetOf no_values) = refl
is_empty_at (SetOf (a_value v vs)) = refl
is_empty_at (RecordOf ks vs) = refl
is_empty_at (ExtensionOf e) = refl

longs_at : (f : ℤ → ℤ → ℤ) (v w : Value) → arithmetic f (a_value v (a_value w no_values)) ≡ at_operand (λ x. at_operand (λ y. checked (f x y)) (long_in w)) (long_in v)
longs_at f (Plain (Boolean b)) w = refl
longs_at f (Plain (Long x)) (Plain (Boolean b)) = refl
longs_at f (Plain (Long x)) (Plain (Long y)) = refl
longs_at f (Plain (Long x)) (Plain (String s)) = refl
longs_at f (Plain (Long x)) (Plain (Entity u)) = refl
longs_at f (Plain (Long x)) (SetOf vs) = refl
longs_at f (Plain (Long x)) (RecordOf ks vs) = refl
longs_at f (Plain (Long x)) (ExtensionOf e) = refl
longs_at f (Plain (String s)) w = refl
longs_at f (Plain (Entity u)) w = refl
longs_at f (SetOf vs) w = refl
longs_at f (RecordOf ks vs) w = refl
longs_at f (ExtensionOf e) w = refl

pub sum_at : (v w : Value) → arithmetic (λ x y. x +ℤ y) (a_value v (a_value w no_values)) ≡ at_operand (λ x. at_operand (λ y. checked (x +ℤ y)) (long_in w)) (long_in v)
sum_at v w = longs_at (λ x y. x +ℤ y) v w

pub difference_at : (v w : Value) → arithmetic (λ x y. x -ℤ y) (a_value v (a_value w no_values)) ≡ at_operand (λ x. at_operand (λ y. checked (x -ℤ y)) (long_in w)) (long_in v)
difference_at v w = longs_at (λ x y. x -ℤ y) v w

pub product_at : (v w : Value) → arithmetic (λ x y. x *ℤ y) (a_value v (a_value w no_values)) ≡ at_operand (λ x. at_operand (λ y. checked (x *ℤ y)) (long_in w)) (long_in v)
product_at v w = longs_at (λ x y. x *ℤ y) v w

not_nil : (v : Value) (vs : List Value) → v ∷ vs ≡ [] → ⊥
not_nil v vs e = cc

-- a set is empty where its list is
none_in : (s : List Value) (b : Bool) → (IsTrue b ↔ (s ≡ [])) → no_member (all_of s) ≡ truth b
none_in [] true h = refl
none_in [] false h = ap truth (sym (h.1 refl))
none_in (v ∷ vs) true h = absurd (not_nil v vs (h.0 refl))
none_in (v ∷ vs) false h = refl

pub empty_gives : (v : Value) (s : List Value) (b : Bool) (r : Value) → members_in v ≡ Some (all_of s) → (IsTrue b ↔ (s ≡ [])) → r ≡ Plain (Boolean b) → is_empty (a_value v no_values) ≡ Gives r
empty_gives v s b r e h i = is_empty_at v ∙ ap (at_operand no_member) e ∙ none_in s b h ∙ ap Gives (sym i)
