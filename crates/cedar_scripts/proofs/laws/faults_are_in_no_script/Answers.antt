use Rattle.cedar_scripts.proofs.SingleFault.{faults_are_in_no_script}
use Rattle.cedar_scripts.proofs.laws.faults_are_in_no_script.Goals as goal

pub returns : goal.returns
returns _ = faults_are_in_no_script
