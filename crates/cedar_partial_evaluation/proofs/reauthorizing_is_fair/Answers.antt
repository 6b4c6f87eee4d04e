-- What is left of a policy means without slots what the policy means under the filling, and the rules are fair.
use Rattle.cedar_partial_evaluation.proofs.Reauthorizing.{reauthorizing_is_fair as law}
use Rattle.cedar_partial_evaluation.proofs.reauthorizing_is_fair.Goals as goal

pub returns : goal.returns
returns c = law
