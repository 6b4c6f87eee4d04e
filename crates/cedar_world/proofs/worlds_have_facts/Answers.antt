-- What is held are all the stops that a path can have, so a search through them decides who is reached.
use Rattle.cedar_world.proofs.WorldFacts.{worlds_have_facts as law}
use Rattle.cedar_world.proofs.worlds_have_facts.Goals as goal

pub returns : goal.returns
returns c = law
