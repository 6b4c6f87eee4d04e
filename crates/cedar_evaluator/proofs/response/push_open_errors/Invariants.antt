-- The errors with those of the policies that are left are those there before and those of all of the group.
use Rattle.std.proofs.Common.{◌≡◌, ◌++◌, map}
use Rattle.std.specs.Slice.Iter.{iter_rest}
use Rattle.cedar_evaluator.specs.Concrete.{cause_seen, left_of}
use Rattle.cedar_evaluator.proofs.response.push_open_errors.Given as goal

abbrev pub invariant-loop-id : goal.invariant-loop-id
invariant-loop-id l = map cause_seen l.errors.items ++ map left_of (iter_rest l.id-iterator) ≡ map cause_seen l.fn.errors.items ++ map left_of l.fn.group
