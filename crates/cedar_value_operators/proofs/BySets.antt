-- The operators that take sets, by what their operands are.
use Rattle.std.proofs.Common.{◌≡◌, Bool, not, refl, ap, ◌∙◌}
use Rattle.std.proofs.Math.Bool.{not-not}
use Rattle.cedar_language.specs.Tree.{Boolean, Long, String, Entity}
use Rattle.cedar_language.specs.Value.{Value, Plain, SetOf, RecordOf, ExtensionOf, Values, no_values, a_value}
use Rattle.cedar_language.specs.Operators.{truth, contains_of, of_two_sets, has_member}
use Rattle.cedar_value_operators.specs.Operands.{members_in, at_operand}
use Rattle.cedar_value_operators.specs.Sets.{at_two_sets}

pub contains_at : (v w : Value) → contains_of (a_value v (a_value w no_values)) ≡ at_operand (λ vs. truth (has_member vs w)) (members_in v)
contains_at (Plain (Boolean b)) w = refl
contains_at (Plain (Long n)) w = refl
contains_at (Plain (String s)) w = refl
contains_at (Plain (Entity u)) w = refl
contains_at (SetOf vs) w = refl
contains_at (RecordOf ks vs) w = refl
contains_at (ExtensionOf e) w = refl

pub two_sets_at : (f : Values → Values → Bool) (v w : Value) → of_two_sets f (a_value v (a_value w no_values)) ≡ at_two_sets f v w
two_sets_at f (Plain (Boolean b)) w = refl
two_sets_at f (Plain (Long n)) w = refl
two_sets_at f (Plain (String s)) w = refl
two_sets_at f (Plain (Entity u)) w = refl
two_sets_at f (SetOf vs) (Plain l) = refl
two_sets_at f (SetOf vs) (SetOf ws) = refl
two_sets_at f (SetOf vs) (RecordOf ks ws) = refl
two_sets_at f (SetOf vs) (ExtensionOf e) = refl
two_sets_at f (RecordOf ks vs) w = refl
two_sets_at f (ExtensionOf e) w = refl

pub undone : (b c : Bool) → c ≡ not b → not c ≡ b
undone b c e = ap not e ∙ not-not b
