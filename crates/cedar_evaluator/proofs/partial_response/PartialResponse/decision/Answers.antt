-- Each group is asked whether it has a policy.
use Rattle.std.proofs.Common.{sym, ◌∙◌}
use Rattle.cedar_language.specs.Answering.{decision_by}
use Rattle.cedar_evaluator.proofs.Reading.{decided_in}
use Rattle.cedar_evaluator.proofs.partial_response.PartialResponse.decision.Goals as goal

pub returns : goal.returns
returns c = c.decided.ensures ∙ (λ i. decision_by (c.has_any.ensures i) (c.has_any-2.ensures i) (c.has_any-3.ensures i) (c.has_any-4.ensures i)) ∙ sym (decided_in c.args.self.now)
