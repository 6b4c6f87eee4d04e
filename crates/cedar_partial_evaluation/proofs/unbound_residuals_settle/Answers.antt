-- A part is kept with its slots only where it erred, and with no slot bound it settles as before or errs.
use Rattle.cedar_partial_evaluation.proofs.UnboundSeam.{unbound_residuals_settle as law}
use Rattle.cedar_partial_evaluation.proofs.unbound_residuals_settle.Goals as goal

pub returns : goal.returns
returns c = law
