-- Each group is copied, and so are the errors.
use Rattle.std.proofs.Common.{◌∙◌, ap, map}
use Rattle.cedar_evaluator.specs.Concrete.{cause_seen}
use Rattle.cedar_evaluator.specs.declared.partial_response.PartialResponse.{PartialResponse}
use Rattle.cedar_evaluator.proofs.CopiedParts.{IsCopied, same_held, same_causes}
use Rattle.cedar_evaluator.proofs.partial_response.PartialResponse.clone.Goals as goal

pub returns-clause-held : goal.returns-clause-held
returns-clause-held c =
    let copy : PartialResponse = record {
      satisfied_permits = c.in_ok-satisfied_permits.satisfied_permits;
      false_permits = c.in_ok-false_permits.false_permits;
      residual_permits = c.in_ok-residual_permits.residual_permits;
      satisfied_forbids = c.in_ok-satisfied_forbids.satisfied_forbids;
      false_forbids = c.in_ok-false_forbids.false_forbids;
      residual_forbids = c.in_ok-residual_forbids.residual_forbids;
      errors = c.in_ok-errors.errors;
      request = c.in_ok-request.request;
    } in
    let is : IsCopied c.args.self.now copy = record {
      satisfied_permits = c.in_ok-satisfied_permits.ensures;
      false_permits = c.in_ok-false_permits.ensures;
      residual_permits = c.in_ok-residual_permits.ensures;
      satisfied_forbids = c.in_ok-satisfied_forbids.ensures;
      false_forbids = c.in_ok-false_forbids.ensures;
      residual_forbids = c.in_ok-residual_forbids.ensures;
      errors = c.in_ok-errors.ensures ∙ ap (map cause_seen) c.deref.ensures.value;
    } in
    same_held c.args.self.now copy is

pub returns-clause-causes : goal.returns-clause-causes
returns-clause-causes c =
    let copy : PartialResponse = record {
      satisfied_permits = c.in_ok-satisfied_permits.satisfied_permits;
      false_permits = c.in_ok-false_permits.false_permits;
      residual_permits = c.in_ok-residual_permits.residual_permits;
      satisfied_forbids = c.in_ok-satisfied_forbids.satisfied_forbids;
      false_forbids = c.in_ok-false_forbids.false_forbids;
      residual_forbids = c.in_ok-residual_forbids.residual_forbids;
      errors = c.in_ok-errors.errors;
      request = c.in_ok-request.request;
    } in
    let is : IsCopied c.args.self.now copy = record {
      satisfied_permits = c.in_ok-satisfied_permits.ensures;
      false_permits = c.in_ok-false_permits.ensures;
      residual_permits = c.in_ok-residual_permits.ensures;
      satisfied_forbids = c.in_ok-satisfied_forbids.ensures;
      false_forbids = c.in_ok-false_forbids.ensures;
      residual_forbids = c.in_ok-residual_forbids.ensures;
      errors = c.in_ok-errors.ensures ∙ ap (map cause_seen) c.deref.ensures.value;
    } in
    same_causes c.args.self.now copy is
