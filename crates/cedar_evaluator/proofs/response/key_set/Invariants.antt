-- The ids so far with those that are left are all of the group.
use Rattle.std.proofs.Common.{◌≡◌, ◌++◌}
use Rattle.std.specs.Map.{keys_of}
use Rattle.std.specs.Slice.Iter.{iter_rest}
use Rattle.cedar_evaluator.proofs.response.key_set.Given as goal

abbrev pub invariant-loop-id : goal.invariant-loop-id
invariant-loop-id g l = l.ids ++ keys_of (iter_rest l.id-iterator) ≡ keys_of l.fn.group
