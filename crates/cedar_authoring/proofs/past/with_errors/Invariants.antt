use Rattle.std.proofs.Common.{◌≡◌, ◌++◌, map, take}
use Rattle.cedar_evaluator.specs.Holding.{error_seen}
use Rattle.cedar_authoring.proofs.past.with_errors.Given as goal

abbrev pub invariant-loop-failed : goal.invariant-loop-failed
invariant-loop-failed l = record {
  groups : l.response ≡ record l.fn.response { errors = l.response.errors };
  errors : map error_seen l.response.errors.items ≡ map error_seen l.fn.response.errors.items ++ map error_seen (take l.failed-index l.errors);
}
