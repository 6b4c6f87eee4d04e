-- The record has what a value stands under.
use Rattle.std.proofs.Common.{ap, sym}
use Rattle.cedar_language.specs.Operators.{is_there, or_fails}
use Rattle.cedar_language.specs.Value.{RecordAttrDoesNotExist}
use Rattle.cedar_interpreter.proofs.lent_lookups.has_field.Goals as goal

pub returns-in-Some : goal.returns-in-Some
returns-in-Some c = ap (λ o. is_there (or_fails RecordAttrDoesNotExist o)) (sym c.in-Some.ensures)

pub returns-in-None : goal.returns-in-None
returns-in-None c = ap (λ o. is_there (or_fails RecordAttrDoesNotExist o)) (sym c.in-None.ensures)
