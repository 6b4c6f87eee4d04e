-- By the lemma of this name.
use Rattle.cedar_typing.proofs.Sameness.{trees_are_told_apart as law}
use Rattle.cedar_typing.proofs.trees_are_told_apart.Goals as goal

pub returns : goal.returns
returns c = law
