-- As the comparison of kinds does: what a record holds weighs less than the record, here where its uids are gathered.
use Rattle.std.proofs.Common.{◌≡◌, ap, arith}
use Rattle.std.specs.BTreeMap.{values}
use denote.Param.Weighed.{most}
use Rattle.cedar_values.specs.Falls.{record_falls}
use Rattle.cedar_values.specs.declared.values.Set.TheDeep.{size-Value, size-ValueKind}
use Rattle.cedar_values.specs.declared.values.ValueKind.TheVariants as kind
use Rattle.cedar_values.proofs.values.uids.+gather_uids.Goals as goal

pub gather_uids-gather_fields-requires : goal.gather_uids-gather_fields-requires
gather_uids-gather_fields-requires t c =
    let below = record_falls c.in-Record.fields in
    let same : most size-Value (values c.deref.result.now) ≡ most size-Value (values c.in-Record.fields.value) =
    ap (λ m. most size-Value (values m)) c.deref.ensures in
    let whole : size-ValueKind c.args.kind.now ≡ size-ValueKind (kind.Record c.in-Record.fields) = ap size-ValueKind c.in-Record.is in
    (omega (arith, below, same, whole, c.decreases), tt)
