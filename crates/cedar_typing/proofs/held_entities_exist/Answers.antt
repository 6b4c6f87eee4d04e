-- By the lemma of this name, over the law that sets of values are finite sets.
use Rattle.cedar_typing.proofs.Existing.{held_entities_exist as law}
use Rattle.cedar_typing.proofs.held_entities_exist.Goals as goal

pub returns : goal.returns
returns c = law c.sets_are_finite.ensures
