-- Literals and types are ordered by heads that they are read back from, patterns as lists of their elements.
use Rattle.cedar_literals.specs.Literals.{literal_cmp_total, literal_cmp_same}
use Rattle.cedar_literals.specs.Patterns.{pattern_cmp_total, pattern_cmp_same}
use Rattle.cedar_literals.specs.Types.{type_cmp_total, type_cmp_same}
use Rattle.cedar_literals.proofs.literal_laws.orders_are_total.Goals as goal

pub returns-clause-literals : goal.returns-clause-literals
returns-clause-literals c = literal_cmp_total

pub returns-clause-same_literals : goal.returns-clause-same_literals
returns-clause-same_literals c = literal_cmp_same

pub returns-clause-types : goal.returns-clause-types
returns-clause-types c = type_cmp_total

pub returns-clause-same_types : goal.returns-clause-same_types
returns-clause-same_types c = type_cmp_same

pub returns-clause-patterns : goal.returns-clause-patterns
returns-clause-patterns c = pattern_cmp_total

pub returns-clause-same_patterns : goal.returns-clause-same_patterns
returns-clause-same_patterns c = pattern_cmp_same
