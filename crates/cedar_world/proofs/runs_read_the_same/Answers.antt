-- A run that read fewer frames would have ended where a frame stands; two that read as many end in one way.
use Rattle.cedar_world.proofs.Runs.{read_the_same}
use Rattle.cedar_world.proofs.runs_read_the_same.Goals as goal

pub returns : goal.returns
returns c = read_the_same c.frames_begin.ensures c.frames_are_one.ensures c.faults_stay.ensures c.faults_are_one.ensures
