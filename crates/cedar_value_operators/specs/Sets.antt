-- The operators that take sets, by what their operands are.
use Rattle.std.specs.Prelude.{Bool}
use Rattle.cedar_language.specs.Value.{Value, Values, Outcome}
use Rattle.cedar_language.specs.Operators.{truth}
use Rattle.cedar_value_operators.specs.Operands.{members_in, at_operand}

-- what `f` says of two sets
abbrev pub at_two_sets : (Values → Values → Bool) → Value → Value → Outcome
at_two_sets f v w = at_operand (λ vs. at_operand (λ ws. truth (f vs ws)) (members_in w)) (members_in v)
