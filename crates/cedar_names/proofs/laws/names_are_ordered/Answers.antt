-- Identifiers are ordered as lists of numbers are, and names as lists of these: totally, and ties are the same.
use Rattle.cedar_language.specs.OrderLaws.{name_cmp_total, name_cmp_same}
use Rattle.cedar_names.proofs.laws.names_are_ordered.Goals as goal

pub returns-clause-total : goal.returns-clause-total
returns-clause-total c = name_cmp_total

pub returns-clause-same : goal.returns-clause-same
returns-clause-same c = name_cmp_same
