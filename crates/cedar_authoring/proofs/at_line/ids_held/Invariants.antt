-- The ids so far, and those of what is to come, are the ids of all.
use Rattle.std.proofs.Common.{◌≡◌, ◌++◌}
use Rattle.std.specs.Map.{keys_of}
use Rattle.cedar_policy_set.specs.Bounds.{seen}
use Rattle.cedar_authoring.proofs.at_line.ids_held.Given as goal

abbrev pub invariant-loop-bound : goal.invariant-loop-bound
invariant-loop-bound l = l.ids.items ++ keys_of (seen l.bound-iterator) ≡ keys_of l.policies
