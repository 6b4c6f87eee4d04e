use Rattle.std.proofs.Common.{◌≡◌, ◌++◌}
use Rattle.cedar_trees.specs.Bare.{bare_entries}
use Rattle.cedar_restricted.specs.Views.{restricted_entries}
use Rattle.cedar_restricted.proofs.restricted.RestrictedExpr.into_pairs.Given as goal

abbrev pub invariant-loop-key : goal.invariant-loop-key
invariant-loop-key l = bare_entries l.exprs.items ++ restricted_entries l.key-iterator.rest.items ≡ restricted_entries l.fn.pairs.items
