-- What was passed over is none of those that are given.
use Rattle.std.proofs.Common.{◌≡◌, length}
use Rattle.cedar_policy_set.specs.BoundsLeft.{linked_left}
use Rattle.cedar_policy_set.proofs.listing.LinkedPoliciesIterator.next.Given as goal

abbrev pub invariant-loop-bound : goal.invariant-loop-bound
invariant-loop-bound l = linked_left l.initial.self ≡ linked_left l.self

abbrev pub decreases-loop-bound : goal.decreases-loop-bound
decreases-loop-bound l = length l.self.bound
