-- Once all is told each leaf is held as the known question has it, and answers to known leaves are meanings.
use Rattle.cedar_partial_evaluation.proofs.Early.{all_told_is_known as law}
use Rattle.cedar_partial_evaluation.proofs.all_told_is_known.Goals as goal

pub returns : goal.returns
returns c = law
