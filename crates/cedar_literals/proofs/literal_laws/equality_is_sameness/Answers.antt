-- Ties in the order of literals, and in that of types, are the same; patterns are compared element by element.
use Rattle.cedar_literals.specs.Literals.{same_literal_decides}
use Rattle.cedar_literals.specs.Patterns.{same_pattern_decides}
use Rattle.cedar_literals.specs.Types.{same_type_decides}
use Rattle.cedar_literals.proofs.literal_laws.equality_is_sameness.Goals as goal

pub returns-clause-literals : goal.returns-clause-literals
returns-clause-literals c = same_literal_decides

pub returns-clause-types : goal.returns-clause-types
returns-clause-types c = same_type_decides

pub returns-clause-patterns : goal.returns-clause-patterns
returns-clause-patterns c = same_pattern_decides
