-- Of a value its attribute, and of a residual what is projected of it.
use Rattle.std.proofs.Common.{ap, sym, subst}
use Rattle.std.specs.Rc.{rc_str_bytes}
use Rattle.cedar_language.specs.Tree.{GetAttr}
use Rattle.cedar_language.specs.Value.{no_values}
use Rattle.cedar_partial_evaluation.specs.Partial.{AllEvaluated, and_next, apply_answer}
use Rattle.cedar_trees.specs.Bare.{bare}
use Rattle.cedar_restricted.specs.PartialValues.{partial_of}
use Rattle.cedar_interpreter.specs.Meeting.{part_answer}
use Rattle.cedar_interpreter.specs.Projecting.{ProjectsAt}
use Rattle.cedar_interpreter.proofs.Projected.{residual_projects}
use Rattle.cedar_interpreter.proofs.attributes.attribute.Goals as goal

pub returns-in-Value : goal.returns-in-Value
returns-in-Value c =
    λ facts has holds.
    let part = partial_of c.args.part in
    subst (λ p. ProjectsAt facts holds part (apply_answer facts holds (GetAttr (rc_str_bytes c.args.attr.now)) (and_next facts (part_answer p) (AllEvaluated no_values))) c.attribute_of_value.result) (sym (ap partial_of c.in-Value.is)) (c.attribute_of_value.ensures facts has holds part)

pub returns-in-Residual : goal.returns-in-Residual
returns-in-Residual c =
    λ facts has holds.
    residual_projects facts holds (rc_str_bytes c.args.attr.now) c.projecting_is_evaluating.ensures (bare c.in-Residual.rest) (partial_of c.args.part) c.project.result (ap partial_of c.in-Residual.is) (c.project.ensures facts holds)
