-- By the lemma of this name.
use Rattle.cedar_typing.proofs.Deciding.{types_are_decided as law}
use Rattle.cedar_typing.proofs.types_are_decided.Goals as goal

pub returns : goal.returns
returns c = law
