-- Construct by construct: what the parts left settles wherever they do, and a tree for a value settles to the value.
use Rattle.cedar_partial_evaluation.proofs.Seam.{residuals_settle as law}
use Rattle.cedar_partial_evaluation.proofs.residuals_settle.Goals as goal

pub returns : goal.returns
returns c = law
