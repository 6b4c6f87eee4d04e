-- What an evaluation answers, by its answer's cases.
use Rattle.std.proofs.Common.{◌≡◌, Bool, true, false, Some, None, inl, refl, sym, ◌∙◌, ap, subst}
use Rattle.std.specs.Prelude.{⊤, Result, Ok, Err}
use Rattle.either.specs.declared.Either.{Either}
use Rattle.either.specs.declared.Either.TheVariants.{Left, Right}
use Rattle.cedar_language.specs.Answering.{Erring}
use Rattle.cedar_language.specs.Authorization.{standing_of}
use Rattle.cedar_language.specs.Tree.{Boolean, Long, String, Entity}
use Rattle.cedar_language.specs.Value.{Value, Plain, SetOf, RecordOf, ExtensionOf, TypeError, Outcome, Gives}
use Rattle.cedar_partial_evaluation.specs.Early.{standing_of_answer}
use Rattle.cedar_partial_evaluation.specs.Partial.{Answer, Evaluated}
use Rattle.cedar_trees.specs.declared.expr.Expr.{Expr}
use Rattle.cedar_extensions.specs.Failures.{Failure, OfKind, LimitMet, MemoryRanOut, failure_of}
use Rattle.cedar_extensions.specs.Giving.{FailsBy, fails_on}
use Rattle.cedar_extensions.specs.declared.evaluation_error.EvaluationError.{EvaluationError}
use Rattle.cedar_interpreter.specs.Meeting.{IsLimit}
use Rattle.cedar_value_operators.specs.Operands.{boolean_in, IsOperand}
use Rattle.cedar_evaluator.specs.Evaluating.{found_by, JudgesAt, JudgesReadAt, standing_by, StandsBy, StandsAt}
use Rattle.cedar_evaluator.specs.Evaluations.{Erred, Finds, found_read}
use Rattle.cedar_evaluator.specs.Grouping.{found_in, IsKeepable}

-- ---- a value

same_boolean : (x s : Bool) → Some x ≡ Some s → x ≡ s
same_boolean x s e = cc

stands : (v : Value) (s : Bool) → boolean_in v ≡ Some s → v ≡ Plain (Boolean s)
stands (Plain (Boolean x)) s e = ap (λ y. Plain (Boolean y)) (same_boolean x s e)
stands (Plain (Long n)) s e = absurd (cc e)
stands (Plain (String t)) s e = absurd (cc e)
stands (Plain (Entity u)) s e = absurd (cc e)
stands (SetOf vs) s e = absurd (cc e)
stands (RecordOf ks vs) s e = absurd (cc e)
stands (ExtensionOf x) s e = absurd (cc e)

found_boolean : (s : Bool) → Finds (Evaluated (Plain (Boolean s))) (found_by (Left s))
found_boolean true = refl
found_boolean false = refl

-- an answer that is a Boolean
pub found_answer : (s : Bool) (v : Value) (b : Answer) → boolean_in v ≡ Some s → b ≡ Evaluated v → Finds b (found_by (Left s))
found_answer s v b e is = subst (λ a. Finds a (found_by (Left s))) (sym (is ∙ ap Evaluated (stands v s e))) (found_boolean s)

no_boolean : (v : Value) → boolean_in v ≡ None → standing_of_answer (Evaluated v) ≡ Erring TypeError
no_boolean (Plain (Boolean x)) e = absurd (cc e)
no_boolean (Plain (Long n)) e = refl
no_boolean (Plain (String t)) e = refl
no_boolean (Plain (Entity u)) e = refl
no_boolean (SetOf vs) e = refl
no_boolean (RecordOf ks vs) e = refl
no_boolean (ExtensionOf x) e = refl

-- an answer that is another value
pub other_answer : (v : Value) (b : Answer) → boolean_in v ≡ None → b ≡ Evaluated v → standing_of_answer b ≡ Erring TypeError
other_answer v b e is = ap standing_of_answer is ∙ no_boolean v e

answered : (s : Bool) → standing_of_answer (Evaluated (Plain (Boolean s))) ≡ standing_by s
answered true = refl
answered false = refl

meant_so : (s : Bool) → standing_of (Gives (Plain (Boolean s))) ≡ standing_by s
meant_so true = refl
meant_so false = refl

no_boolean_meant : (v : Value) → boolean_in v ≡ None → standing_of (Gives v) ≡ Erring TypeError
no_boolean_meant (Plain (Boolean x)) e = absurd (cc e)
no_boolean_meant (Plain (Long n)) e = refl
no_boolean_meant (Plain (String t)) e = refl
no_boolean_meant (Plain (Entity u)) e = refl
no_boolean_meant (SetOf vs) e = refl
no_boolean_meant (RecordOf ks vs) e = refl
no_boolean_meant (ExtensionOf x) e = refl

-- a Boolean that a value has to be, as how a policy stands
pub stands_at : (v : Value) (b : Answer) (result : Result Bool EvaluationError) → IsOperand (λ s. s) (boolean_in v) result → b ≡ Evaluated v → StandsAt b result
stands_at v b (Ok s) h is = ap standing_of_answer (is ∙ ap Evaluated (stands v s h)) ∙ answered s
stands_at v b (Err e) h is = fails_on (failure_of e) (λ k x. inl (other_answer v b x.0 is ∙ ap Erring (sym x.1))) (λ d. tt) h

pub stands_by : (deep : Type 0) (v : Value) (meant : Outcome) (result : Result Bool EvaluationError) → IsOperand (λ s. s) (boolean_in v) result → meant ≡ Gives v → StandsBy deep meant result
stands_by deep v meant (Ok s) h is = ap standing_of (is ∙ ap Gives (stands v s h)) ∙ meant_so s
stands_by deep v meant (Err e) h is = fails_on (failure_of e) (λ k x. ap standing_of is ∙ no_boolean_meant v x.0 ∙ ap Erring (sym x.1)) (λ d. absurd d) h

-- ---- what is found

fails : (b : Answer) (f : Failure) → FailsBy ⊤ (λ k. standing_of_answer b ≡ Erring k) f → (Erred f ≡ Erred MemoryRanOut → ⊥) → Finds b (Erred f)
fails b (OfKind k) h keepable = h
fails b LimitMet h keepable = tt
fails b MemoryRanOut h keepable = keepable refl

pub finds : (b : Answer) (answer : Result (Either Bool (Expr (Unit {0}))) EvaluationError) → JudgesAt b answer → IsKeepable answer → Finds b (found_in answer)
finds b (Ok e) h keepable = h
finds b (Err e) h keepable = fails b (failure_of e) h keepable

pub finds_read : (b : Answer) (answer : Result (Either Bool (Expr (Unit {0}))) EvaluationError) → JudgesReadAt b answer → IsKeepable answer → Finds b (found_read (found_in answer))
finds_read b (Ok e) h keepable = h
finds_read b (Err e) h keepable = fails b (failure_of e) h keepable

same_failure : (f g : Failure) → Erred f ≡ Erred g → f ≡ g
same_failure f g e = cc

pub limit_met : (answer : Result (Either Bool (Expr (Unit {0}))) EvaluationError) → found_in answer ≡ Erred LimitMet → IsLimit answer
limit_met (Ok (Left true)) e = absurd (cc e)
limit_met (Ok (Left false)) e = absurd (cc e)
limit_met (Ok (Right rest)) e = absurd (cc e)
limit_met (Err error) e = same_failure (failure_of error) LimitMet e
