-- What is told of a name is told of those that it is among.
use Rattle.std.proofs.Common.{◌≡◌, Vec}
use Rattle.cedar_language.specs.Uid.{Name}
use Rattle.cedar_validator.specs.Converting.{TellsName}
use Rattle.cedar_validator.specs.SchemaTypes.{is_among}
use Rattle.cedar_validator.proofs.Told.{handed, told_among}
use Rattle.cedar_validator.proofs.actions.written_types.Goals as goal

pub returns-in_err-written_type : goal.returns-in_err-written_type
returns-in_err-written_type c =
    let names = c.args.names.now in
    let e = c.in_err-written_type.field-0.0 in
    handed _ (TellsName (is_among names)) c.from_residual.result e c.from_residual.ensures
    (told_among names c.loop-name.name-index c.name-item.result e c.loop-name-test.true c.name-item.is c.in_err-written_type.ensures)
