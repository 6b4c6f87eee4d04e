-- By the lemma of this name.
use Rattle.cedar_conformance.proofs.Accepting.{accepted}
use Rattle.cedar_conformance.proofs.laws.accepted_requests_conform.Goals as goal

pub returns : goal.returns
returns c = accepted c.types_are_decided.ensures
