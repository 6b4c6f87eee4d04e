-- Every key that was passed is allowed, so those to come decide.
use Rattle.std.proofs.Common.{◌≡◌, map}
use Rattle.cedar_trees.specs.Bare.{bare_entries}
use Rattle.cedar_world.specs.Bodies as world
use Rattle.cedar_held.specs.Lent.{fields_in}
use Rattle.cedar_held.proofs.fields.has_only.Given as goal

abbrev pub invariant-loop-key : goal.invariant-loop-key
invariant-loop-key l =
    goal.iterator-loop-key.can_next l.key-iterator ×
    goal.iterator-loop-key.is_finite l.key-iterator ×
    (world.are_among (map (λ k. k.now) l.keys) (fields_in l.entries) ≡ world.are_among (map (λ k. k.now) l.keys) (bare_entries l.key-iterator))
