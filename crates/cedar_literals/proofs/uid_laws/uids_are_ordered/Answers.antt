-- By the type's name first and then by the id: each in a total order whose ties are the same.
use Rattle.cedar_literals.specs.Laws.{uid_cmp_total}
use Rattle.cedar_literals.proofs.Sameness.{uid_cmp_same}
use Rattle.cedar_literals.proofs.uid_laws.uids_are_ordered.Goals as goal

pub returns-clause-total : goal.returns-clause-total
returns-clause-total c = uid_cmp_total

pub returns-clause-same : goal.returns-clause-same
returns-clause-same c = uid_cmp_same
