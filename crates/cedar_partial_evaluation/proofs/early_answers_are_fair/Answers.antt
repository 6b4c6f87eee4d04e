-- Each policy's answer means what its condition means under the filling, and the rules are fair.
use Rattle.cedar_partial_evaluation.proofs.Early.{early_answers_are_fair as law}
use Rattle.cedar_partial_evaluation.proofs.early_answers_are_fair.Goals as goal

pub returns : goal.returns
returns c = law
