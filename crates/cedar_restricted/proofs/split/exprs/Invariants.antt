use Rattle.std.proofs.Common.{◌++◌, List, map}
use Rattle.cedar_language.specs.Tree.{Tree}
use Rattle.cedar_trees.specs.Bare.{bare}
use Rattle.cedar_restricted.specs.PartialValues.{partial_of}
use Rattle.cedar_restricted.specs.Splitting.{ExpressEach}
use Rattle.cedar_restricted.proofs.split.exprs.Given as goal

abbrev pub invariant-loop-item : goal.invariant-loop-item
invariant-loop-item l = (ts : List Tree) → ExpressEach (map partial_of l.item-iterator.rest.items) ts → ExpressEach (map partial_of l.fn.items.items) (map bare l.exprs.items ++ ts)
