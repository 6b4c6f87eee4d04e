-- What a record holds is smaller than the record.
use Rattle.std.proofs.Common.{rules, ap, arith}
use Rattle.cedar_values.specs.Falls.{record_falls}
use Rattle.cedar_values.specs.declared.values.Set.TheDeep.{size-ValueKind}
use Rattle.cedar_values.proofs.values.+value.Goals as goal

pub ValueKind::drop-drop-fields-requires : goal.ValueKind::drop-drop-fields-requires
ValueKind::drop-drop-fields-requires t c κs =
    (((omega (arith, record_falls c.in-Record._fields, ap size-ValueKind c.in-Record.is, c.decreases), tt), tt), (search rules, search rules))
