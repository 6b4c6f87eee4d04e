-- What stands there, with what is left put in, is all that was given.
use Rattle.std.proofs.Common.{◌≡◌}
use Rattle.cedar_evaluator.specs.Given.{put_in, gathered}
use Rattle.cedar_evaluator.proofs.partial_response.mapped.Given as goal

abbrev pub invariant-loop-id : goal.invariant-loop-id
invariant-loop-id g l = put_in l.map l.id-iterator.rest.items ≡ gathered l.fn.entries.items
