use Rattle.cedar_scripts.proofs.SingleFault.{faults_are_one}
use Rattle.cedar_scripts.proofs.laws.faults_are_one.Goals as goal

pub returns : goal.returns
returns _ = faults_are_one
