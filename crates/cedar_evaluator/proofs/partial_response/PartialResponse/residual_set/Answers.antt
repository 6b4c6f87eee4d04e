-- What is left are static policies.
use Rattle.std.proofs.Common.{map}
use Rattle.cedar_policy_set.specs.Bounds.{policy_seen}
use Rattle.cedar_evaluator.proofs.LeftSets.{are_bound, are_apart, are_refused}
use Rattle.cedar_evaluator.proofs.partial_response.PartialResponse.residual_set.Goals as goal

pub returns-clause-bound : goal.returns-clause-bound
returns-clause-bound c = are_bound c.args.self.now (map policy_seen c.in_ok-policies.policies.items) c.in_ok-policies.ensures c.try_from_iter.result c.try_from_iter.ensures

pub returns-clause-apart : goal.returns-clause-apart
returns-clause-apart c = are_apart c.args.self.now (map policy_seen c.in_ok-policies.policies.items) c.in_ok-policies.ensures c.try_from_iter.result c.try_from_iter.ensures

pub returns-clause-refused : goal.returns-clause-refused
returns-clause-refused c = are_refused c.args.self.now (map policy_seen c.in_ok-policies.policies.items) c.in_ok-policies.ensures c.try_from_iter.result c.try_from_iter.ensures
