-- Each variable and operator is read back from the language's own.
use Rattle.cedar_literals.specs.Operators.{unary_operators_told_apart, binary_operators_told_apart}
use Rattle.cedar_literals.specs.Variables.{variables_told_apart}
use Rattle.cedar_literals.proofs.literal_laws.operators_are_told_apart.Goals as goal

pub returns-clause-variables : goal.returns-clause-variables
returns-clause-variables c = variables_told_apart

pub returns-clause-unary : goal.returns-clause-unary
returns-clause-unary c = unary_operators_told_apart

pub returns-clause-binary : goal.returns-clause-binary
returns-clause-binary c = binary_operators_told_apart
