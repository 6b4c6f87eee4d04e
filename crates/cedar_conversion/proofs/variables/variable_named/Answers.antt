-- A word that spells none of the four variables names none.
use Rattle.std.proofs.Common.{sym}
use Rattle.cedar_conversion.proofs.Words.{no_variable}
use Rattle.cedar_conversion.proofs.variables.variable_named.Goals as goal

pub returns-in_default : goal.returns-in_default
returns-in_default c = sym (no_variable c.args.text.now c.in_default.not-principal c.in_default.not-action c.in_default.not-resource c.in_default.not-context)
