-- A record's keys are tested, and those of an escape are two that differ.
use Rattle.cedar_json.proofs.Keys.{datum_unique}
use Rattle.cedar_json.proofs.values_have_unique_keys.Goals as goal

pub returns : goal.returns
returns c = datum_unique
