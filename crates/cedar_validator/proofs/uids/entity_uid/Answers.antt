-- What is told of the type is told of the uid.
use Rattle.std.proofs.Common.{◌≡◌, subst}
use Rattle.cedar_language.specs.Uid.{Name}
use Rattle.cedar_language.specs.Order.{same_name}
use Rattle.cedar_validator.specs.Converting.{TellsName}
use Rattle.cedar_validator.proofs.Converted.{name_told}
use Rattle.cedar_validator.proofs.Told.{handed}
use Rattle.cedar_validator.proofs.uids.entity_uid.Goals as goal

pub returns-in_err-entity_type : goal.returns-in_err-entity_type
returns-in_err-entity_type c =
    let e = c.in_err-entity_type.field-0.0 in
    let told = name_told c.type_name.result.now e c.in_err-entity_type.ensures in
    handed _ (TellsName (same_name c.args.uid.now.type_name)) c.from_residual.result e c.from_residual.ensures
    (subst (λ (n : Name). TellsName (same_name n) e) c.type_name.ensures told)
