use Rattle.std.proofs.Common.{◌≡◌, false, take}
use Rattle.cedar_evaluator.specs.Candidates.{policies_at}
use Rattle.cedar_evaluator.specs.Grouping.{KeepsEach}
use Rattle.cedar_evaluator.proofs.partial_response.PartialResponse.gather_at.Given as goal

-- the policies at the positions so far are kept
abbrev pub invariant-loop-position : goal.invariant-loop-position
invariant-loop-position g l = record {
  keeps : KeepsEach g.F.ExtensionFunctionObject.answers false l.evaluator l.scopes (policies_at l.policies (take l.position-index l.positions)) l.self;
  same : l.self.request ≡ l.fn.self.request;
}
