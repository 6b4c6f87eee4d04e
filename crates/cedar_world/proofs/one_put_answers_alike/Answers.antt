-- One put leaves the entities that the edits left, and an answer reads these and what is in force alone.
use Rattle.cedar_world.proofs.Alike.{answers_read_what_is_in_force as reads}
use Rattle.cedar_world.proofs.OnePut.{one_put_answers_alike as law}
use Rattle.cedar_world.proofs.one_put_answers_alike.Goals as goal

pub returns : goal.returns
returns c = law c.put_makes_again.ensures reads
