-- The policies so far, and those to come, are all.
use Rattle.std.proofs.Common.{◌≡◌, ◌++◌}
use Rattle.cedar_policy_set.specs.Bounds.{seen}
use Rattle.cedar_named_sessions.specs.Giving.{given_by, placed_in}
use Rattle.cedar_named_sessions.proofs.placing.placed_by.Given as goal

abbrev pub invariant-loop-bound : goal.invariant-loop-bound
invariant-loop-bound l =
    l.placed.items ++ placed_in l.renaming (given_by l.given) (seen l.bound-iterator) ≡ placed_in l.renaming (given_by l.given) l.policies
