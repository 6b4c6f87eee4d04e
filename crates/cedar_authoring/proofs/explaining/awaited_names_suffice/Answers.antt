-- By the places of each tree that is left.
use Rattle.cedar_authoring.proofs.NamesLeft.{awaited_names_suffice as law}
use Rattle.cedar_authoring.proofs.explaining.awaited_names_suffice.Goals as goal

pub returns : goal.returns
returns c = law
