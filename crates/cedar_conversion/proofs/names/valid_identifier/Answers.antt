-- What is refused as not normal spells no valid identifier in the grammar.
use Rattle.std.proofs.Common.{Err, sym, subst}
use Rattle.cedar_names.specs.Reading.{ReadsId}
use Rattle.cedar_conversion.proofs.Words.{none_valid}
use Rattle.cedar_conversion.proofs.names.valid_identifier.Goals as goal

pub returns-in-Err-NotNormalized : goal.returns-in-Err-NotNormalized
returns-in-Err-NotNormalized c =
    sym (none_valid c.args.text.now (subst (λ e. ReadsId c.args.text.now (Err e)) c.in-Err-NotNormalized.field-0-is c.in-Err-NotNormalized.ensures))
