-- What was passed over is none of those that are given; of the permits none is left once the forbids are looked at.
use Rattle.std.proofs.Common.{◌≡◌, [], length}
use Rattle.std.specs.Slice.Iter.{iter_rest}
use Rattle.cedar_evaluator.specs.IdsLeft.{errored_ids_left}
use Rattle.cedar_evaluator.proofs.ids.ErroredIdsIterator.next.Given as goal

abbrev pub invariant-loop-id : goal.invariant-loop-id
invariant-loop-id l = errored_ids_left l.initial.self ≡ errored_ids_left l.self

abbrev pub decreases-loop-id : goal.decreases-loop-id
decreases-loop-id l = length (iter_rest l.self.permits)

abbrev pub invariant-loop-id-2 : goal.invariant-loop-id-2
invariant-loop-id-2 l = (errored_ids_left l.initial.self ≡ errored_ids_left l.self) × (iter_rest l.self.permits ≡ [])

abbrev pub decreases-loop-id-2 : goal.decreases-loop-id-2
decreases-loop-id-2 l = length (iter_rest l.self.forbids)
