-- What a call gives, as an answer where calls may name unknowns.
use Rattle.std.proofs.Common.{◌≡◌, ◌∙◌, ap, sym, refl, subst, Bool, true, false, ◌&&◌, cond, Option, Some, None}
use Rattle.std.specs.Prelude.{Result}
use Rattle.either.specs.declared.Either.TheVariants.{Left, Right}
use Rattle.cedar_language.specs.Facts.{Function, Facts}
use Rattle.cedar_language.specs.Operators.{called}
use Rattle.cedar_language.specs.Order.{same_name}
use Rattle.cedar_language.specs.Tree.{String, ValueType, Call, Tree, Unknown, Apply, Trees}
use Rattle.cedar_language.specs.Uid.{Text, Name}
use Rattle.cedar_language.specs.Value.{Value, Plain, Values, Kind, Gives, Fails}
use Rattle.cedar_partial_evaluation.specs.Partial.{Answer, Evaluated, Failed, AllEvaluated, LeafAnswers}
use Rattle.cedar_partial_evaluation.specs.Question.{name_held}
use Rattle.cedar_partial_evaluation.specs.ReadUnknowns.{unknown_function}
use Rattle.cedar_extensions.specs.Failures.{Failure}
use Rattle.cedar_extensions.specs.Giving.{FailsBy, fails_on}
use Rattle.cedar_extensions.specs.Table.{Table, HasFunctions}
use Rattle.cedar_extensions.specs.declared.evaluation_error.EvaluationError.{EvaluationError}
use Rattle.cedar_restricted.specs.declared.partial_values.PartialValue.{PartialValue}
use Rattle.cedar_restricted_evaluation.specs.Findings.{IsCalledBy}
use Rattle.cedar_interpreter.specs.Meeting.{MeetsAt}
use Rattle.cedar_interpreter.specs.Naming.{text_given, named_or, call_answer}
use Rattle.cedar_interpreter.specs.Operating.{operated, unknown_at}

none_named : (a b : Bool) (o : Option Text) → b ≡ false → cond (a && b) o None ≡ None
none_named true true o h = cc
none_named true false o h = refl
none_named false b o h = refl

nothing_named : (b : Bool) (o : Option Text) → o ≡ None → cond b o None ≡ None
nothing_named true o h = h
nothing_named false o h = refl

both : (a b : Bool) (o : Option Text) → a ≡ true → b ≡ true → cond (a && b) o None ≡ o
both true true o h k = refl
both true false o h k = cc
both false b o h k = cc

module _ (function : Option Function) (has_unknown : Bool) (unknown : Text → Answer) (f : Name) (vs : Values) where
  -- a value that is given is the answer
  pub value_answered : (v : Value) → IsCalledBy function has_unknown f vs (Left v) → call_answer has_unknown unknown f (called function vs) ≡ Evaluated v
  value_answered v h =
      ap (call_answer has_unknown unknown f) h.gives
      ∙ ap (λ o. named_or unknown o (Evaluated v)) (none_named has_unknown (same_name f unknown_function) (text_given (Gives v)) h.other)

  -- a name that is given is answered as its unknown is
  pub name_answered : (r : Tree) (h : IsCalledBy function has_unknown f vs (Right r)) → call_answer has_unknown unknown f (called function vs) ≡ unknown h.name
  name_answered r h =
      ap (call_answer has_unknown unknown f) h.gives
      ∙ ap (λ o. named_or unknown o (Evaluated (Plain (String h.name)))) (both has_unknown (same_name f unknown_function) (Some h.name) h.held h.built_in)

  pub failure_answered : (k : Kind) → called function vs ≡ Fails k → call_answer has_unknown unknown f (called function vs) ≡ Failed k
  failure_answered k h =
      ap (call_answer has_unknown unknown f) h
      ∙ ap (λ o. named_or unknown o (Failed k)) (nothing_named (has_unknown && same_name f unknown_function) (text_given (Fails k)) refl)

  pub failed_answered : (e : Failure) → FailsBy ⊥ (λ k. called function vs ≡ Fails k) e → FailsBy ⊥ (λ k. call_answer has_unknown unknown f (called function vs) ≡ Failed k) e
  failed_answered e h = fails_on e failure_answered (λ d. d) h

same_unknown : (n m : Text) (ty uy : Option ValueType) → Some (Unknown n ty) ≡ Some (Unknown m uy) → (n ≡ m) × (ty ≡ uy)
same_unknown n m ty uy h = (cc, cc)

-- what is answered of a residual that a call gives, by the unknown that it is
module _ (function : Option Function) (has_unknown : Bool) (value : Text → Option Value) (f : Name) (vs : Values) (r : Tree) (h : IsCalledBy function has_unknown f vs (Right r)) where
  pub unknown_answered : (n : Text) (ty : Option ValueType) → Some (Unknown n ty) ≡ unknown_at r → call_answer has_unknown (λ m. name_held (value m) m None) f (called function vs) ≡ name_held (value n) n ty
  unknown_answered n ty is =
      let same = same_unknown n h.name ty None (is ∙ ap unknown_at h.unknown) in
      name_answered function has_unknown (λ m. name_held (value m) m None) f vs r h
      ∙ ap (λ m. name_held (value m) m None) (sym same.0) ∙ ap (name_held (value n) n) (sym same.1)

  pub no_unknown : None ≡ unknown_at r → ⊥
  no_unknown is = let no : None ≡ Some (Unknown h.name None) = is ∙ ap unknown_at h.unknown in cc

-- the answer to a call is that to its construct
pub call_operates : (facts : Facts) (table : Table) (holds : LeafAnswers) (told : Text → Answer) (t : Tree) (f : Name) (ts : Trees) (vs : Values) (result : Result PartialValue EvaluationError) → t ≡ Apply (Call f) ts
    → HasFunctions table facts → ((n : Text) → holds.unknown n None ≡ told n) → MeetsAt ⊥ (call_answer table.has_unknown told f (called (table.function f) vs)) result → MeetsAt ⊥ (operated table.has_unknown facts holds t (AllEvaluated vs)) result
call_operates facts table holds told t f ts vs result is has unknowns h =
    let same : (λ (n : Text). holds.unknown n None) ≡ told = λ i n. unknowns n i in
    subst (λ b. MeetsAt ⊥ b result)
    (sym (ap (λ u. operated table.has_unknown facts holds u (AllEvaluated vs)) is
    ∙ ap (λ (function : Option Function). call_answer table.has_unknown (λ n. holds.unknown n None) f (called function vs)) (has f)
    ∙ ap (λ (u : Text → Answer). call_answer table.has_unknown u f (called (table.function f) vs)) same)) h
