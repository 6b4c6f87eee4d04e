-- A written link is read as what linking makes, and a link is answered as that.
use Rattle.cedar_world.proofs.WrittenLinks.{written_links_are_answered as law}
use Rattle.cedar_world.proofs.written_links_are_answered.Goals as goal

pub returns : goal.returns
returns c = law c.written_links_are_one.ensures.are_read c.links_are_answered_as_written.ensures
