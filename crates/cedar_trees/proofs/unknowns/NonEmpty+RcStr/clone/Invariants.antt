-- The texts copied so far are those that were passed.
use Rattle.std.proofs.Common.{◌≡◌, map, take}
use Rattle.std.specs.Rc.{rc_str_bytes}
use Rattle.cedar_trees.proofs.unknowns.NonEmpty+RcStr.clone.Given as goal

abbrev pub invariant-loop-text : goal.invariant-loop-text
invariant-loop-text l = map rc_str_bytes l.tail.items ≡ map rc_str_bytes (take l.text-index l.self.tail.items)
