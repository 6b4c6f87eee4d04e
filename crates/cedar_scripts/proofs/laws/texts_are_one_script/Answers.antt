use Rattle.cedar_scripts.proofs.SingleFault.{texts_are_one_script}
use Rattle.cedar_scripts.proofs.laws.texts_are_one_script.Goals as goal

pub returns : goal.returns
returns _ = texts_are_one_script
