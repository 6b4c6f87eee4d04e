use Rattle.cedar_restricted_evaluation.proofs.WrittenNames as proof
use Rattle.cedar_restricted_evaluation.proofs.laws.written_names_are_read.Goals as goal

pub returns : goal.returns
returns c = proof.written_names_are_read
