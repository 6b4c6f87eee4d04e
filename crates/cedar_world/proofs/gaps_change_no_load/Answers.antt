-- With the gap a text is read and nests as without it, so the same refusals stand and the same policies are loaded.
use Rattle.cedar_world.proofs.LoadedGaps.{gaps_change_no_load}
use Rattle.cedar_world.proofs.gaps_change_no_load.Goals as goal

pub returns : goal.returns
returns c = gaps_change_no_load c.gaps_change_no_token.ensures.white c.gaps_change_no_token.ensures.texts
