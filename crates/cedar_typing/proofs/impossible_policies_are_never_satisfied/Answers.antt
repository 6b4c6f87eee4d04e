-- By the lemma of this name, over the law that sets of values are finite sets.
use Rattle.cedar_typing.proofs.Validated.{impossible_policies_are_never_satisfied as law}
use Rattle.cedar_typing.proofs.impossible_policies_are_never_satisfied.Goals as goal

pub returns : goal.returns
returns c = law c.sets_are_finite.ensures
