-- The value under the key is what the record has.
use Rattle.std.proofs.Common.{◌∙◌, ap, sym}
use Rattle.cedar_language.specs.Operators.{or_fails}
use Rattle.cedar_language.specs.Value.{RecordAttrDoesNotExist, Gives}
use Rattle.cedar_interpreter.proofs.lent_lookups.field.Goals as goal

pub returns : goal.returns
returns c = ap (or_fails RecordAttrDoesNotExist) (sym c.in_ok-value.ensures) ∙ ap Gives (sym c.of_value.ensures)
