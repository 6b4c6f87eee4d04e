use Rattle.std.proofs.Common.{◌≡◌, map}
use Rattle.cedar_typing.specs.Types.{lub_fields as least_fields}
use Rattle.cedar_typechecker.specs.Types.{field_view, fields_view}
use Rattle.cedar_typechecker.proofs.Above.{in_front, least_left}
use Rattle.cedar_typechecker.proofs.+lub.Given as goal

abbrev pub invariant-lub::lub_fields-loop-index : goal.invariant-lub::lub_fields-loop-index
invariant-lub::lub_fields-loop-index l =
    in_front (map field_view l.least.items) (least_left l.fields l.others l.index) ≡ least_fields (fields_view l.fields) (fields_view l.others)
