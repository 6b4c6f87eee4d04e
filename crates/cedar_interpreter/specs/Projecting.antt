-- An attribute of what a part is found to be.
use Rattle.std.specs.Prelude.{◌≡◌, ◌<◌, true, Option, Some, None, option_map, Result}
use Rattle.either.specs.declared.Either.{Either}
use Rattle.cedar_language.specs.Uid.{Text}
use Rattle.cedar_language.specs.Tree.{GetAttr, Tree, Apply, no_trees, a_tree}
use Rattle.cedar_language.specs.Value.{Value}
use Rattle.cedar_language.specs.Facts.{Facts}
use Rattle.cedar_language.specs.Height.{height}
use Rattle.cedar_language.specs.Restricted.{is_projectable}
use Rattle.cedar_partial_evaluation.specs.Partial.{Answer, ResidualTree, Failed, LeafAnswers, projected_in, attribute_answer, partial_in}
use Rattle.cedar_trees.specs.Bare.{bare}
use Rattle.cedar_trees.specs.declared.expr.Expr.{Expr}
use Rattle.cedar_restricted.specs.PartialValues.{partial_of}
use Rattle.cedar_extensions.specs.Giving.{GivesBy}
use Rattle.cedar_extensions.specs.declared.evaluation_error.EvaluationError.{EvaluationError}
use Rattle.cedar_interpreter.specs.Depths.{left_height}
use Rattle.cedar_interpreter.specs.Meeting.{part_answer}
use Rattle.cedar_interpreter.specs.declared.attributes.Projected.{Projected}
use Rattle.cedar_interpreter.specs.declared.attributes.Projected.TheVariants as projected

-- an answer, or an entry of a residual that is to be evaluated again: it is lower than the residual, and nothing is called in it
abbrev pub IsProjected : Facts → LeafAnswers → Either Value Tree → Answer → Projected → Type 0
IsProjected facts holds part c (projected.Done p) = c ≡ part_answer (partial_of p)
IsProjected facts holds part c (projected.Entry e) = (c ≡ partial_in facts holds (bare e)) × (height (bare e) < left_height (part_answer part)) × (is_projectable (bare e) ≡ true)

abbrev pub ProjectsAt : Facts → LeafAnswers → Either Value Tree → Answer → Result Projected EvaluationError → Type 0
ProjectsAt facts holds part c result = GivesBy (IsProjected facts holds part c) (λ k. c ≡ Failed k) ⊥ result

-- the same of this residual
abbrev pub IsProjectedOf : Facts → LeafAnswers → Text → Tree → Projected → Type 0
IsProjectedOf facts holds a r (projected.Done p) = attribute_answer facts holds a r ≡ part_answer (partial_of p)
IsProjectedOf facts holds a r (projected.Entry e) =
    (attribute_answer facts holds a r ≡ projected_in facts holds (bare e)) × (height (bare e) < height r) × (is_projectable (bare e) ≡ true)

abbrev pub ProjectsOf : Facts → LeafAnswers → Text → Tree → Result Projected EvaluationError → Type 0
ProjectsOf facts holds a r result = GivesBy (IsProjectedOf facts holds a r) (λ k. attribute_answer facts holds a r ≡ Failed k) ⊥ result

-- the same of this residual: the entry that is taken, or that the access waits
abbrev pub IsTaken : Facts → LeafAnswers → Text → Tree → Option Tree → Type 0
IsTaken facts holds a r None = attribute_answer facts holds a r ≡ ResidualTree (Apply (GetAttr a) (a_tree r no_trees))
IsTaken facts holds a r (Some e) =
    (attribute_answer facts holds a r ≡ projected_in facts holds e) × (height e < height r) × (is_projectable e ≡ true)

abbrev pub TakesOf : Facts → LeafAnswers → Text → Tree → Result (Option (Expr (Unit {0}))) EvaluationError → Type 0
TakesOf facts holds a r result = GivesBy (λ o. IsTaken facts holds a r (option_map bare o)) (λ k. attribute_answer facts holds a r ≡ Failed k) ⊥ result
