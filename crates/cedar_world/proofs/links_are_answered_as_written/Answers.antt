-- What a link writes is in force where the link was, and worlds in which the same is in force are answered alike.
use Rattle.cedar_world.proofs.Alike.{links_are_answered_as_written as law}
use Rattle.cedar_world.proofs.links_are_answered_as_written.Goals as goal

pub returns : goal.returns
returns c = law c.link_laws.ensures.writing
