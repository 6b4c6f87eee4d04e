-- The faults of its name, and of what is written for it.
use Rattle.std.proofs.lemmas.Result.{on_ok_weaker}
use Rattle.cedar_schema_resolution.specs.Declarations.{type_view}
use Rattle.cedar_schema_faults.proofs.Declaring.{told_common}
use Rattle.cedar_schema_faults.proofs.names.SchemaNames.tell_common_type.Goals as goal

pub returns : goal.returns
returns c = on_ok_weaker c.tell_type.result
    (λ e. told_common c.args.self.now c.args.told.now c.tell_reserved_type.new.told c.tell_shadowing.new.told c.tell_type.new.told (type_view c.args.common.now)
    c.words.result.now c.words.ensures c.in_ok-tell_reserved_type.ensures c.in_ok-tell_shadowing.ensures e)
    c.tell_type.ensures
