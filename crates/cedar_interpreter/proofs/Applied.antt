-- Constructs at values, and leaves, by the construct of their expression.
use Rattle.std.proofs.Common.{◌≡◌, ◌∙◌, refl, ap, sym, subst, List, map, Bool, false, Global}
use Rattle.std.specs.Prelude.{Result}
use Rattle.std.specs.declared.rc.RcStr.{RcStr}
use Rattle.cedar_language.specs.Tree.{Tree, Apply, Trees}
use Rattle.cedar_language.specs.Value.{Value, RecordOf}
use Rattle.cedar_language.specs.Facts.{Facts}
use Rattle.cedar_language.specs.Order.{all_of}
use Rattle.cedar_partial_evaluation.specs.Partial.{LeafAnswers}
use Rattle.cedar_grammar.specs.Build.{keys}
use Rattle.cedar_literals.specs.Operators.{unary_operator_of, binary_operator_of}
use Rattle.cedar_literals.specs.declared.operators.UnaryOp.{UnaryOp}
use Rattle.cedar_literals.specs.declared.operators.UnaryOp.TheVariants as unary_op
use Rattle.cedar_literals.specs.declared.operators.BinaryOp.{BinaryOp}
use Rattle.cedar_literals.specs.declared.operators.BinaryOp.TheVariants as binary_op
use Rattle.cedar_values.specs.Kinds.{keys_of, values_of}
use Rattle.cedar_trees.specs.Bare.{bare_entries}
use Rattle.cedar_trees.specs.declared.expr.Expr.{Expr}
use Rattle.cedar_restricted.proofs.Rising.{texts, keys_are}
use Rattle.cedar_restricted.specs.declared.partial_values.PartialValue.{PartialValue}
use Rattle.cedar_extensions.specs.declared.evaluation_error.EvaluationError.{EvaluationError}
use Rattle.cedar_interpreter.specs.Meeting.{MeetsAt}
use Rattle.cedar_interpreter.specs.Naming.{naming_in}
use Rattle.cedar_interpreter.specs.Forms.{is_of_list}

-- an operator of one operand, or of two, is no call, set or record
pub unary_is_no_list : (op : UnaryOp) (ts : Trees) → is_of_list (Apply (unary_operator_of op) ts) ≡ false
unary_is_no_list unary_op.Not ts = refl
unary_is_no_list unary_op.Neg ts = refl
unary_is_no_list unary_op.IsEmpty ts = refl

pub binary_is_no_list : (op : BinaryOp) (ts : Trees) → is_of_list (Apply (binary_operator_of op) ts) ≡ false
binary_is_no_list binary_op.Eq ts = refl
binary_is_no_list binary_op.Less ts = refl
binary_is_no_list binary_op.LessEq ts = refl
binary_is_no_list binary_op.Add ts = refl
binary_is_no_list binary_op.Sub ts = refl
binary_is_no_list binary_op.Mul ts = refl
binary_is_no_list binary_op.In ts = refl
binary_is_no_list binary_op.Contains ts = refl
binary_is_no_list binary_op.ContainsAll ts = refl
binary_is_no_list binary_op.ContainsAny ts = refl
binary_is_no_list binary_op.GetTag ts = refl
binary_is_no_list binary_op.HasTag ts = refl

pub keyed_value : (entries : List (RcStr Global × Expr (Unit {0}))) (made : List (RcStr Global × Value)) (items : List Value) → texts made ≡ texts entries → map (λ e. e.1) made ≡ items → RecordOf (keys_of made) (values_of made) ≡ RecordOf (keys (bare_entries entries)) (all_of items)
keyed_value entries made items ks is = ap (λ ks. RecordOf ks (values_of made)) (ks ∙ sym (keys_are entries)) ∙ ap (λ vs. RecordOf (keys (bare_entries entries)) (all_of vs)) is

-- ---- leaves

pub leaf_as : (naming : Bool) (facts : Facts) (holds : LeafAnswers) (t u : Tree) (r : Result PartialValue EvaluationError) → t ≡ u → MeetsAt ⊥ (naming_in naming facts holds u) r → MeetsAt ⊥ (naming_in naming facts holds t) r
leaf_as naming facts holds t u r is h = subst (λ x. MeetsAt ⊥ (naming_in naming facts holds x) r) (sym is) h
