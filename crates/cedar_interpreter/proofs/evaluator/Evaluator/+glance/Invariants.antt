use Rattle.std.proofs.Common.{◌+◌, ◌*◌}
use Rattle.cedar_interpreter.proofs.evaluator.Evaluator.+glance.Given as goal

abbrev pub decreases-glance_within : goal.decreases-glance_within
decreases-glance_within g l = 4 * l.depth

abbrev pub decreases-glance_operator : goal.decreases-glance_operator
decreases-glance_operator g l = 4 * l.depth + 3

abbrev pub decreases-glance_unary : goal.decreases-glance_unary
decreases-glance_unary g l = 4 * l.depth + 2

abbrev pub decreases-glance_test : goal.decreases-glance_test
decreases-glance_test g l = 4 * l.depth + 1

abbrev pub decreases-glance_if : goal.decreases-glance_if
decreases-glance_if g l = 4 * l.depth + 2

abbrev pub decreases-glance_and : goal.decreases-glance_and
decreases-glance_and g l = 4 * l.depth + 2

abbrev pub decreases-glance_or : goal.decreases-glance_or
decreases-glance_or g l = 4 * l.depth + 2

abbrev pub decreases-glance_attribute : goal.decreases-glance_attribute
decreases-glance_attribute g l = 4 * l.depth + 2

abbrev pub decreases-glance_one : goal.decreases-glance_one
decreases-glance_one g l = 4 * l.depth + 2

abbrev pub decreases-glance_two : goal.decreases-glance_two
decreases-glance_two g l = 4 * l.depth + 2

abbrev pub decreases-glance_operand : goal.decreases-glance_operand
decreases-glance_operand g l = 4 * l.depth + 1

abbrev pub decreases-glance_of_one : goal.decreases-glance_of_one
decreases-glance_of_one g l = 4 * l.depth + 3

abbrev pub decreases-glance_of_two : goal.decreases-glance_of_two
decreases-glance_of_two g l = 4 * l.depth + 3

abbrev pub decreases-glance_long : goal.decreases-glance_long
decreases-glance_long g l = 4 * l.depth + 2
