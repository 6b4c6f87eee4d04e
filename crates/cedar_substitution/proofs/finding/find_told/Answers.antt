-- Keys that compare as equal are one text.
use Rattle.std.proofs.Common.{◌∙◌}
use Rattle.cedar_substitution.proofs.Lookups.{looked_up}
use Rattle.cedar_substitution.proofs.finding.find_told.Goals as goal

pub returns : goal.returns
returns g c = c.get.ensures.value ∙ looked_up c.args.name.now c.args.told.now.entries
