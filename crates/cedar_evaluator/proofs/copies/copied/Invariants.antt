-- What was copied tells what the first part of the errors does.
use Rattle.std.proofs.Common.{◌≡◌, map, take}
use Rattle.cedar_evaluator.specs.Concrete.{cause_seen}
use Rattle.cedar_evaluator.proofs.copies.copied.Given as goal

abbrev pub invariant-loop-error : goal.invariant-loop-error
invariant-loop-error l = map cause_seen l.copies.items ≡ map cause_seen (take l.error-index l.errors)
