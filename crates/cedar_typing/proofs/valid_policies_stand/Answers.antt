-- By the lemma of this name, over the law that sets of values are finite sets.
use Rattle.cedar_typing.proofs.Validated.{valid_policies_stand as law}
use Rattle.cedar_typing.proofs.valid_policies_stand.Goals as goal

pub returns : goal.returns
returns c = law c.sets_are_finite.ensures
