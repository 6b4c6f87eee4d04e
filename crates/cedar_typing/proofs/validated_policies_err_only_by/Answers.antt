-- By the lemma of this name, over the law that sets of values are finite sets.
use Rattle.cedar_typing.proofs.Validated.{validated_policies_err_only_by as law}
use Rattle.cedar_typing.proofs.validated_policies_err_only_by.Goals as goal

pub returns : goal.returns
returns c = law c.sets_are_finite.ensures
