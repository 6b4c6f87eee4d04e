-- With none open the same permits and forbids are satisfied under the filling, and the answer is read from these alone.
use Rattle.cedar_language.proofs.Answering.{rules_are_exact as law}
use Rattle.cedar_language.proofs.rules_are_exact.Goals as goal

pub returns : goal.returns
returns c = law
