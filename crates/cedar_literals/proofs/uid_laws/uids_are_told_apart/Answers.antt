-- The first quote parts the type's name from the id, and an escaped id is read back character by character.
use Rattle.cedar_literals.proofs.Cutting.{told_apart}
use Rattle.cedar_literals.proofs.uid_laws.uids_are_told_apart.Goals as goal

pub returns : goal.returns
returns c = told_apart
