-- The map has a key exactly where a value is told at that name.
use Rattle.std.proofs.Common.{◌∙◌, ap, sym, is_some}
use Rattle.cedar_substitution.proofs.Lookups.{looked_up}
use Rattle.cedar_telling.proofs.TellParts.{told_at}
use Rattle.cedar_telling.proofs.telling.is_told.Goals as goal

pub returns : goal.returns
returns c = c.contains_key.ensures ∙ ap is_some (looked_up c.args.name.now c.args.told.now.entries ∙ sym (told_at c.args.name.now c.args.told.now.entries))
