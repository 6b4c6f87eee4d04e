-- What was passed over is none of those that are given.
use Rattle.std.proofs.Common.{◌≡◌, length}
use Rattle.cedar_policy_set.specs.BoundsLeft.{all_templates_left}
use Rattle.cedar_policy_set.proofs.listing.AllTemplatesIterator.next.Given as goal

abbrev pub invariant-loop-bound : goal.invariant-loop-bound
invariant-loop-bound l = all_templates_left l.initial.self ≡ all_templates_left l.self

abbrev pub decreases-loop-bound : goal.decreases-loop-bound
decreases-loop-bound l = length l.self.bound
