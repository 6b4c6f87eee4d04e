use Rattle.std.proofs.Common.{map, take}
use Rattle.cedar_evaluator.specs.Holding.{error_seen}
use Rattle.cedar_authoring.specs.Standing.{AreOf}
use Rattle.cedar_authoring.proofs.standing.errors_by_id.Given as goal

abbrev pub invariant-loop-failed : goal.invariant-loop-failed
invariant-loop-failed l = AreOf l.by_id (map error_seen (take l.failed-index l.errors))
