-- A value is what is meant; what is left has no value, and is never left of what is known.
use Rattle.std.proofs.Common.{◌≡◌, ◌<◌, refl, ap, sym, subst, inl, inr, true}
use Rattle.std.specs.Prelude.{◌⊎◌, Ok}
use Rattle.cedar_language.specs.Height.{height}
use Rattle.cedar_language.specs.Value.{NonValue}
use Rattle.cedar_partial_evaluation.specs.Leaves.{is_left}
use Rattle.cedar_partial_evaluation.specs.Partial.{Failed}
use Rattle.cedar_extensions.specs.Failures.{failure_of}
use Rattle.cedar_extensions.specs.Giving.{FailsBy, fails_on}
use Rattle.cedar_restricted.specs.Views.{borrowed_tree}
use Rattle.cedar_restricted.specs.declared.partial_values.PartialValue.{PartialValue}
use Rattle.cedar_restricted_evaluation.specs.Evaluations.{MeansKnown, Answers, answer_in}
use Rattle.cedar_interpreter.specs.Restricted.{table_of, limit_of}
use Rattle.cedar_interpreter.proofs.restricted.RestrictedEvaluator.interpret.Goals as goal

pub returns-in-Ok-Value-clause-meaning : goal.returns-in-Ok-Value-clause-meaning
returns-in-Ok-Value-clause-meaning g c =
    subst (λ (p : PartialValue). MeansKnown (table_of g.F.ExtensionFunctionObject.answers c.args.self.now) (limit_of c.args.self.now) (borrowed_tree c.args.expr) (Ok p)) c.in-Ok-Value.field-0-is c.in-Ok-Value.ensures.meaning

pub returns-in_ok-non_value-in-Ok-Residual-clause-meaning : goal.returns-in_ok-non_value-in-Ok-Residual-clause-meaning
returns-in_ok-non_value-in-Ok-Residual-clause-meaning g c =
    λ known facts has request. absurd (subst (λ (p : PartialValue). MeansKnown (table_of g.F.ExtensionFunctionObject.answers c.args.self.now) (limit_of c.args.self.now) (borrowed_tree c.args.expr) (Ok p)) c.in-Ok-Residual.field-0-is c.in-Ok-Residual.ensures.meaning known facts has request)

pub returns-in_ok-non_value-in-Ok-Residual-clause-answer : goal.returns-in_ok-non_value-in-Ok-Residual-clause-answer
returns-in_ok-non_value-in-Ok-Residual-clause-answer g c =
    λ facts has.
    let a = answer_in (table_of g.F.ExtensionFunctionObject.answers c.args.self.now) facts (borrowed_tree c.args.expr) in
    let found = subst (λ (p : PartialValue). Answers (table_of g.F.ExtensionFunctionObject.answers c.args.self.now) (limit_of c.args.self.now) (borrowed_tree c.args.expr) (Ok p)) c.in-Ok-Residual.field-0-is c.in-Ok-Residual.ensures.answer facts has in
    subst (FailsBy (limit_of c.args.self.now < height (borrowed_tree c.args.expr)) (λ k. (a ≡ Failed k) ⊎ ((k ≡ NonValue) × (is_left a ≡ true)))) (sym c.in_ok-non_value-in-Ok-Residual.ensures.kind)
    (inr (refl, ap is_left found))

pub returns-in-Err-clause-answer : goal.returns-in-Err-clause-answer
returns-in-Err-clause-answer g c = λ facts has. fails_on (failure_of c.in-Err.error) (λ k e. inl e) (λ d. d) (c.in-Err.ensures.answer facts has)
