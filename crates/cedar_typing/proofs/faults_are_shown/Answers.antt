-- By the lemma of this name.
use Rattle.cedar_typing.proofs.Shows.{faults_are_shown as law}
use Rattle.cedar_typing.proofs.faults_are_shown.Goals as goal

pub returns : goal.returns
returns c = law
