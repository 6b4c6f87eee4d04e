-- Each rule for a kind has a construct settle to an error, and each way in which one does so has a rule.
use Rattle.cedar_partial_evaluation.proofs.Errors.{settling_is_one as law}
use Rattle.cedar_partial_evaluation.proofs.settling_is_one.Goals as goal

pub returns : goal.returns
returns c = law
