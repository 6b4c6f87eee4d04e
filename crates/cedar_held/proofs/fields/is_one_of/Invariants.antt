-- No key that was passed is the one sought, so those to come decide.
use Rattle.std.proofs.Common.{◌≡◌, map, drop}
use Rattle.cedar_world.specs.Bodies as world
use Rattle.cedar_held.proofs.fields.is_one_of.Given as goal

abbrev pub invariant-loop-k : goal.invariant-loop-k
invariant-loop-k l = world.is_one_of (map (λ k. k.now) l.keys) l.key ≡ world.is_one_of (map (λ k. k.now) (drop l.k-index l.keys)) l.key
