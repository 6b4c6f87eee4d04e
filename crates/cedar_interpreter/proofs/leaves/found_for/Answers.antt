-- Keys that compare as equal are one text.
use Rattle.std.proofs.Common.{◌∙◌}
use Rattle.cedar_interpreter.proofs.Told.{looked_up}
use Rattle.cedar_interpreter.proofs.leaves.found_for.Goals as goal

pub returns : goal.returns
returns c = c.get.ensures.value ∙ looked_up c.args.name.now c.args.told.now.entries
