-- Permits before forbids.
use Rattle.cedar_grammar.specs.Policy.{Permit, Forbid}
use Rattle.cedar_evaluator.specs.Residuals.{of_effect}
use Rattle.cedar_evaluator.proofs.Responding.{if_ok}
use Rattle.cedar_evaluator.proofs.Sought.{found_first, found_behind}
use Rattle.cedar_evaluator.proofs.partial_response.PartialResponse.get.Goals as goal

pub returns-in-Some : goal.returns-in-Some
returns-in-Some c =
    let r = c.args.self.now in
    found_first c.args.id.now (of_effect Permit r.residual_permits r.satisfied_permits r.false_permits) (of_effect Forbid r.residual_forbids r.satisfied_forbids r.false_forbids)
    c.in-Some.policy c.in_ok-permit.permit c.in-Some.is c.in_ok-permit.ensures

pub returns-in-None : goal.returns-in-None
returns-in-None c =
    let r = c.args.self.now in
    if_ok c.found_at-in-None.result
    (λ found is. found_behind c.args.id.now (of_effect Permit r.residual_permits r.satisfied_permits r.false_permits) (of_effect Forbid r.residual_forbids r.satisfied_forbids r.false_forbids)
    found c.in_ok-permit.permit c.in-None.is c.in_ok-permit.ensures is)
    c.found_at-in-None.ensures
