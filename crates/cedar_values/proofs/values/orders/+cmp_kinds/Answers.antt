-- The values of a record weigh less than the record, so the comparison ends.
use Rattle.std.proofs.Common.{◌≡◌, ap, arith}
use Rattle.std.specs.BTreeMap.{values}
use denote.Param.Weighed.{most}
use Rattle.cedar_values.specs.Falls.{record_falls}
use Rattle.cedar_values.specs.declared.values.Set.TheDeep.{size-Value, size-ValueKind}
use Rattle.cedar_values.specs.declared.values.ValueKind.TheVariants as kind
use Rattle.cedar_values.proofs.values.orders.+cmp_kinds.Goals as goal

pub cmp_kinds-cmp_fields-requires : goal.cmp_kinds-cmp_fields-requires
cmp_kinds-cmp_fields-requires t c =
    let below = record_falls c.in-Record-Record.x in
    let same : most size-Value (values c.deref-in-Equal.result.now) ≡ most size-Value (values c.in-Record-Record.x.value) =
    ap (λ m. most size-Value (values m)) c.deref-in-Equal.ensures in
    let whole : size-ValueKind c.args.a.now ≡ size-ValueKind (kind.Record c.in-Record-Record.x) = ap size-ValueKind c.in-Record-Record.is-0 in
    (omega (arith, below, same, whole, c.decreases), tt)
