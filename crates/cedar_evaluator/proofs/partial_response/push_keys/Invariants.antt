-- The ids with those that are left are those there before and all of the group.
use Rattle.std.proofs.Common.{◌≡◌, ◌++◌}
use Rattle.std.specs.Map.{keys_of}
use Rattle.std.specs.Slice.Iter.{iter_rest}
use Rattle.cedar_evaluator.proofs.partial_response.push_keys.Given as goal

abbrev pub invariant-loop-id : goal.invariant-loop-id
invariant-loop-id g l = l.ids.items ++ keys_of (iter_rest l.id-iterator) ≡ l.fn.ids.items ++ keys_of l.fn.group
