-- The lemmas of AnsweringKnown, by the laws of what is known.
use Rattle.cedar_evaluator.proofs.AnsweringKnown.{known_answered}
use Rattle.cedar_evaluator.proofs.laws.known_requests_are_answered.Goals as goal

pub returns : goal.returns
returns c = known_answered c.rules_are_exact.ensures c.leaves_dont_matter.ensures c.known_is_meaning.ensures
