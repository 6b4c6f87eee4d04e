use Rattle.std.proofs.Common.{◌+◌, ◌*◌, map, drop}
use Rattle.cedar_trees.specs.Bare.{bare}
use Rattle.cedar_restricted.specs.PartialValues.{partial_of}
use Rattle.cedar_interpreter.proofs.Nesting.{Goes}
use Rattle.cedar_interpreter.proofs.evaluator.Evaluator.+interpret.Given as goal

abbrev pub invariant-interpret_parts-loop-part : goal.invariant-interpret_parts-loop-part
invariant-interpret_parts-loop-part g l =
    Goes g.F.ExtensionFunctionObject.answers l.self l.slots l.depth (map (λ e. bare e.now) (drop l.part-index l.parts)) (map partial_of l.answers.items) (map (λ e. bare e.now) l.parts)

abbrev pub decreases-interpret_within : goal.decreases-interpret_within
decreases-interpret_within g l = 4 * l.depth + 1

abbrev pub decreases-interpret_form : goal.decreases-interpret_form
decreases-interpret_form g l = 4 * l.depth

abbrev pub decreases-interpret_if : goal.decreases-interpret_if
decreases-interpret_if g l = 4 * l.depth + 3

abbrev pub decreases-interpret_and : goal.decreases-interpret_and
decreases-interpret_and g l = 4 * l.depth + 3

abbrev pub decreases-interpret_or : goal.decreases-interpret_or
decreases-interpret_or g l = 4 * l.depth + 3

abbrev pub decreases-interpret_attribute : goal.decreases-interpret_attribute
decreases-interpret_attribute g l = 4 * l.depth + 3

abbrev pub decreases-interpret_strict : goal.decreases-interpret_strict
decreases-interpret_strict g l = 4 * l.depth + 3

abbrev pub decreases-interpret_parts : goal.decreases-interpret_parts
decreases-interpret_parts g l = 4 * l.depth + 2
