-- By the lemma of this name.
use Rattle.cedar_typing.proofs.Deciding.{parents_are_enough as law}
use Rattle.cedar_typing.proofs.parents_are_enough.Goals as goal

pub returns : goal.returns
returns c = law
