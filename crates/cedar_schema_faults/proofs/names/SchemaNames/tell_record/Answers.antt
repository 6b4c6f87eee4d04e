-- Attributes that stand again are told, and the faults of their types.
use Rattle.std.proofs.Common.{refl}
use Rattle.std.proofs.lemmas.Result.{on_ok_weaker}
use Rattle.cedar_schema_faults.proofs.Typing.{record_told}
use Rattle.cedar_schema_faults.proofs.names.SchemaNames.tell_record.Goals as goal

pub returns : goal.returns
returns c = on_ok_weaker c.tell_attributes.result
    (λ e. record_told c.args.self.now c.args.namespace.now c.args.told.now c.tell_duplicate_attributes.new.told c.tell_attributes.new.told
    c.args.attributes.now c.args.attributes.now c.args.attributes.now refl refl c.in_ok-tell_duplicate_attributes.ensures e)
    c.tell_attributes.ensures
