use Rattle.std.proofs.Common.{◌≡◌, map}
use Rattle.cedar_policy_set.specs.Bounds.{policy_seen}
use Rattle.cedar_evaluator.specs.Grouping.{KeepsEach}
use Rattle.cedar_evaluator.proofs.partial_response.PartialResponse.gather_all.Given as goal

-- the policies so far are kept
abbrev pub invariant-loop-policy : goal.invariant-loop-policy
invariant-loop-policy g l = record {
  keeps : KeepsEach g.F.ExtensionFunctionObject.answers l.with_false l.evaluator l.scopes (map (λ p. policy_seen p.now) l.yielded) l.self;
  same : l.self.request ≡ l.fn.self.request;
}
