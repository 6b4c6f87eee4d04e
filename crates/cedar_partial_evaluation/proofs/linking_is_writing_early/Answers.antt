-- A slot is answered as the entity in its place, so only what lazy operators leave differs; kinds go rule by rule.
use Rattle.cedar_partial_evaluation.proofs.Linking.{linking_is_writing_early as law}
use Rattle.cedar_partial_evaluation.proofs.linking_is_writing_early.Goals as goal

pub returns : goal.returns
returns c = law
