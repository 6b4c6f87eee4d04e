-- What is left so far with what is left of the policies to come is what was there before and all of the group.
use Rattle.std.proofs.Common.{◌≡◌, ◌++◌, map}
use Rattle.std.specs.Slice.Iter.{iter_rest}
use Rattle.cedar_policy_parts.specs.Effects.{effect_of}
use Rattle.cedar_policy_set.specs.Bounds.{policy_seen}
use Rattle.cedar_evaluator.specs.Residuals.{left_open}
use Rattle.cedar_evaluator.proofs.readers.push_open.Given as goal

abbrev pub invariant-loop-id : goal.invariant-loop-id
invariant-loop-id l =
    map policy_seen l.policies.items ++ map (left_open (effect_of l.fn.effect)) (iter_rest l.id-iterator) ≡ map policy_seen l.fn.policies.items ++ map (left_open (effect_of l.fn.effect)) l.fn.group
