-- Names are compared identifier by identifier, and these character by character.
use Rattle.cedar_names.proofs.Sameness.{names_same}
use Rattle.cedar_names.proofs.laws.equality_is_sameness.Goals as goal

pub returns : goal.returns
returns c = names_same
