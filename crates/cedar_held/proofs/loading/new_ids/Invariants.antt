-- The ids so far, and the new ones of the policies to come, are the new ids of all.
use Rattle.std.proofs.Common.{◌≡◌, ◌++◌, map}
use Rattle.std.specs.Map.{keys_of}
use Rattle.cedar_store.specs.Renaming.{new_id}
use Rattle.cedar_policy_set.specs.Bounds.{seen}
use Rattle.cedar_held.proofs.loading.new_ids.Given as goal

abbrev pub invariant-loop-bound : goal.invariant-loop-bound
invariant-loop-bound l = l.ids.items ++ map (new_id l.renaming) (keys_of (seen l.bound-iterator)) ≡ map (new_id l.renaming) (keys_of l.policies)
