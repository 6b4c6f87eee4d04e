-- Commands that tell are tells, and those end with what is known.
use Rattle.cedar_world.proofs.ToldRuns.{told_commands}
use Rattle.cedar_world.proofs.told_commands_end_known.Goals as goal

pub returns : goal.returns
returns c = told_commands c.telling_all_is_knowing.ensures
