-- The lemmas of ToldAnswers, by the laws of sets and of values that are written.
use Rattle.cedar_requests.proofs.ToldAnswers.{told_contexts}
use Rattle.cedar_requests.proofs.laws.told_contexts_are_evaluated.Goals as goal

pub returns : goal.returns
returns c = told_contexts c.sets_are_finite.ensures c.written_values_are_restricted.ensures.written c.written_values_are_restricted.ensures.ground
