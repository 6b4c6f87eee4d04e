-- What an operand is, where it is of the type that an operator takes.
use Rattle.std.specs.Prelude.{◌≡◌, Bool, true, false, Option, Some, None, Result}
use Rattle.cedar_language.specs.Value.{Value, Values, no_values, a_value, TypeError, Outcome, Fails}
use Rattle.cedar_literals.specs.declared.operators.BinaryOp.{BinaryOp}
use Rattle.cedar_literals.specs.declared.operators.BinaryOp.TheVariants.{Add, Sub, Mul}
use Rattle.cedar_extensions.specs.Giving.{GivesBy}
use Rattle.cedar_extensions.specs.declared.evaluation_error.EvaluationError.{EvaluationError}
pub use Rattle.cedar_values.specs.Readers.{boolean_in, long_in, text_in, uid_in, members_in, extension_in}

abbrev pub one : Value → Values
one v = a_value v no_values

abbrev pub two : Value → Value → Values
two v w = a_value v (a_value w no_values)

-- the operand, or TypeError where it is of another type
abbrev pub IsOperand : {X Y : Type 0} → (X → Y) → Option Y → Result X EvaluationError → Type 0
IsOperand view operand result = GivesBy (λ x. operand ≡ Some (view x)) (λ k. (operand ≡ None) × (k ≡ TypeError)) ⊥ result

-- what an operator gives for its operand, where that is of the type that it takes
abbrev pub at_operand : {Y : Type 0} → (Y → Outcome) → Option Y → Outcome
at_operand f (Some y) = f y
at_operand f None = Fails TypeError

abbrev pub is_arithmetic : BinaryOp → Bool
is_arithmetic Add = true
is_arithmetic Sub = true
is_arithmetic Mul = true
is_arithmetic op = false
