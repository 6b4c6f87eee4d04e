-- The test of syntax was shown to decide sameness, part by part.
use Rattle.cedar_policies.specs.Same.{syntaxes_decide}
use Rattle.cedar_policies.proofs.laws.equality_is_sameness.Goals as goal

pub returns : goal.returns
returns c = syntaxes_decide
