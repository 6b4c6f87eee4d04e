use Rattle.std.proofs.Common.{◌≡◌, ◌++◌, drop, map}
use Rattle.cedar_trees.specs.Bare.{bare}
use Rattle.cedar_restricted.specs.Constructing.{long_tree}
use Rattle.cedar_restricted.proofs.constructing.push_longs.Given as goal

-- what was added, before what is to come
abbrev pub invariant-loop-byte : goal.invariant-loop-byte
invariant-loop-byte l = map bare l.exprs.items ++ map long_tree (drop l.byte-index l.bytes) ≡ map bare l.fn.exprs.items ++ map long_tree l.bytes
