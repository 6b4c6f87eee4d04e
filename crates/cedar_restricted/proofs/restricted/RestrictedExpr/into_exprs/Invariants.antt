use Rattle.std.proofs.Common.{◌≡◌, ◌++◌, map}
use Rattle.cedar_trees.specs.Bare.{bare}
use Rattle.cedar_restricted.specs.Views.{restricted_tree}
use Rattle.cedar_restricted.proofs.restricted.RestrictedExpr.into_exprs.Given as goal

abbrev pub invariant-loop-item : goal.invariant-loop-item
invariant-loop-item l = map bare l.exprs.items ++ map restricted_tree l.item-iterator.rest.items ≡ map restricted_tree l.fn.items.items
