-- Two groups, one after the other.
use Rattle.std.proofs.Common.{◌++◌, sym, ◌∙◌}
use Rattle.std.specs.Map.{keys_of}
use Rattle.cedar_evaluator.proofs.Residuals.{open_ids}
use Rattle.cedar_evaluator.proofs.partial_response.PartialResponse.nontrivial_residual_ids.Goals as goal

pub returns : goal.returns
returns c = (λ i. keys_of (c.iter.ensures i) ++ keys_of (c.iter-2.ensures i)) ∙ sym (open_ids c.args.self.now)
