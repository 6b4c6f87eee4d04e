-- Constructs that name no unknown, and operators that call no function.
use Rattle.std.proofs.Common.{◌≡◌, refl, ap, ◌∙◌, Bool, true, false, ◌&&◌, cond, None}
use Rattle.cedar_language.specs.Facts.{Facts}
use Rattle.cedar_language.specs.Operators.{called}
use Rattle.cedar_language.specs.Tree.{Operator, Call, Trees}
use Rattle.cedar_language.specs.Value.{Kind}
use Rattle.cedar_literals.specs.Operators.{binary_operator_of}
use Rattle.cedar_literals.specs.declared.operators.UnaryOp.TheVariants as unary_op
use Rattle.cedar_literals.specs.declared.operators.BinaryOp.{BinaryOp}
use Rattle.cedar_literals.specs.declared.operators.BinaryOp.TheVariants as binary_op
use Rattle.cedar_partial_evaluation.specs.Partial.{Answers, AllEvaluated, SomeResiduals, SomeFailed, Failed, answer_of, LeafAnswers, residual_answer, apply_answer}
use Rattle.cedar_partial_evaluation.specs.ReadUnknowns.{is_unknown_call}
use Rattle.cedar_interpreter.specs.Forms.{unary_operator}
use Rattle.cedar_interpreter.specs.Naming.{text_given, named_or, construct_answer}
use Rattle.cedar_interpreter.specs.declared.operands.UnaryOperator.{UnaryOperator}
use Rattle.cedar_interpreter.specs.declared.operands.UnaryOperator.TheVariants as on

module _ (naming : Bool) (facts : Facts) (holds : LeafAnswers) where
  pub other_construct : (op : Operator) (bs : Answers) → (naming && is_unknown_call op) ≡ false → construct_answer naming facts holds op bs ≡ apply_answer facts holds op bs
  other_construct (Call f) (AllEvaluated vs) h =
      ap (λ b. named_or (λ n. holds.unknown n None) (cond b (text_given (called (facts.function f) vs)) None) (answer_of (called (facts.function f) vs))) h
  other_construct op bs h = refl

  pub plain_construct : (op : Operator) (bs : Answers) → is_unknown_call op ≡ false → construct_answer naming facts holds op bs ≡ apply_answer facts holds op bs
  plain_construct op bs h = other_construct op bs (ap (λ b. naming && b) h ∙ neither naming)
    where
      neither : (b : Bool) → (b && false) ≡ false
      neither true = refl
      neither false = refl

  pub construct_fails : (op : Operator) (k : Kind) → construct_answer naming facts holds op (SomeFailed k) ≡ Failed k
  construct_fails (Call f) k = refl
  construct_fails op k = refl

  pub construct_left : (op : Operator) (us : Trees) → construct_answer naming facts holds op (SomeResiduals us) ≡ residual_answer facts holds op us
  construct_left (Call f) us = refl
  construct_left op us = refl

-- an operator of one operand, or of two, calls nothing
pub unary_calls_nothing : (op : UnaryOperator) → is_unknown_call (unary_operator op) ≡ false
unary_calls_nothing (on.Applied unary_op.Not) = refl
unary_calls_nothing (on.Applied unary_op.Neg) = refl
unary_calls_nothing (on.Applied unary_op.IsEmpty) = refl
unary_calls_nothing (on.Has a) = refl
unary_calls_nothing (on.HasPath p) = refl
unary_calls_nothing (on.Like p) = refl
unary_calls_nothing (on.Is ty) = refl

pub binary_calls_nothing : (op : BinaryOp) → is_unknown_call (binary_operator_of op) ≡ false
binary_calls_nothing binary_op.Eq = refl
binary_calls_nothing binary_op.Less = refl
binary_calls_nothing binary_op.LessEq = refl
binary_calls_nothing binary_op.Add = refl
binary_calls_nothing binary_op.Sub = refl
binary_calls_nothing binary_op.Mul = refl
binary_calls_nothing binary_op.In = refl
binary_calls_nothing binary_op.Contains = refl
binary_calls_nothing binary_op.ContainsAll = refl
binary_calls_nothing binary_op.ContainsAny = refl
binary_calls_nothing binary_op.GetTag = refl
binary_calls_nothing binary_op.HasTag = refl
