-- By the lemma of this name.
use Rattle.cedar_typing.proofs.Shows.{scopes_narrow as law}
use Rattle.cedar_typing.proofs.scopes_narrow.Goals as goal

pub returns : goal.returns
returns c = law
