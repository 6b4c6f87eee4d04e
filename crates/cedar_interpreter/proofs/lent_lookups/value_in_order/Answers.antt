-- The map's entry is what the record has.
use Rattle.cedar_language.specs.Operators.{found}
use Rattle.cedar_values.specs.Kinds.{keys_of, values_of}
use Rattle.cedar_operators.proofs.ByLookup.{entry_found, entry_missing}
use Rattle.cedar_interpreter.proofs.Glanced.{there, missing}
use Rattle.cedar_interpreter.proofs.lent_lookups.value_in_order.Goals as goal

pub returns-in-Some : goal.returns-in-Some
returns-in-Some c =
    let es = c.args.fields.now.entries in
    let key = c.args.key.now in
    there (found (keys_of es) (values_of es) key) c.in-Some.value.now (entry_found es key c.in-Some.value.now c.in-Some.ensures.value)

pub returns-in-None : goal.returns-in-None
returns-in-None c =
    let es = c.args.fields.now.entries in
    let key = c.args.key.now in
    missing (found (keys_of es) (values_of es) key) (entry_missing es key c.in-None.ensures.value)
