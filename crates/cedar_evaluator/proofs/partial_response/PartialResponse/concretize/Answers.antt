-- The decision, the reasons and the errors, put together.
use Rattle.std.proofs.Common.{map, ◌∙◌, ap}
use Rattle.cedar_policy_parts.specs.Decisions.{decision_of}
use Rattle.cedar_evaluator.specs.Holding.{error_seen}
use Rattle.cedar_evaluator.proofs.Concrete.{errors_told}
use Rattle.cedar_evaluator.proofs.partial_response.PartialResponse.concretize.Goals as goal

pub returns-clause-concrete : goal.returns-clause-concrete
returns-clause-concrete c = record {
  decision = ap decision_of c.new.ensures.decision ∙ c.concrete_decision-decision.ensures;
  reasons = cc (c.new.ensures.reason, c.in_ok-reason.ensures);
  errors = ap (map error_seen) c.new.ensures.errors ∙ errors_told c.args.self c.in_ok-errors.errors.items c.in_ok-errors.ensures;
}
