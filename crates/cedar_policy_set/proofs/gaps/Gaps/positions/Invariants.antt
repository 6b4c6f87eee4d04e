-- Those so far are moved to where they stand, and the others wait.
use Rattle.cedar_policy_set.specs.ClosedPlaces.{position_of}
use Rattle.cedar_policy_set.proofs.Moving.{AreMoved}
use Rattle.cedar_policy_set.proofs.gaps.Gaps.positions.Given as goal

abbrev pub invariant-loop-place : goal.invariant-loop-place
invariant-loop-place l = AreMoved (position_of l.self.taken.items) l.initial.place-items l.place-items l.place-index
