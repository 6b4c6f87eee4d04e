-- The places tell of the ids so far.
use Rattle.std.proofs.Common.{take}
use Rattle.std.specs.Map.{keys_of}
use Rattle.cedar_policy_set.specs.Places.{Tells}
use Rattle.cedar_policy_set.proofs.policy_map.places_of.Given as goal

abbrev pub invariant-loop-id : goal.invariant-loop-id
invariant-loop-id g l = Tells l.places (keys_of (take l.id-index l.entries))
