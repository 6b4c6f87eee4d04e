-- A run that ended before one of these frames would have ended where a frame stands.
use Rattle.cedar_world.proofs.Runs.{cut_runs_begin_alike}
use Rattle.cedar_world.proofs.cut_runs_begin_alike.Goals as goal

pub returns : goal.returns
returns c = cut_runs_begin_alike c.frames_begin.ensures c.frames_are_one.ensures c.faults_stay.ensures
