-- A slot is a leaf of height 1, and so is the entity that is written in its place.
use Rattle.cedar_language.proofs.Height.{linking_keeps_height as law}
use Rattle.cedar_language.proofs.linking_keeps_height.Goals as goal

pub returns : goal.returns
returns c = law
