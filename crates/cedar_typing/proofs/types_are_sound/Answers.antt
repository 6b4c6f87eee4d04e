-- By the lemma of this name, over the law that sets of values are finite sets.
use Rattle.cedar_typing.proofs.Validated.{types_are_sound as law}
use Rattle.cedar_typing.proofs.types_are_sound.Goals as goal

pub returns : goal.returns
returns c = law c.sets_are_finite.ensures
