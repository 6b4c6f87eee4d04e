-- A refused frame leaves the world, so frames that tell are tells, and those end with what is known.
use Rattle.cedar_world.proofs.ToldRuns.{runs_end_known}
use Rattle.cedar_world.proofs.runs_end_known.Goals as goal

pub returns : goal.returns
returns c = runs_end_known c.telling_all_is_knowing.ensures
