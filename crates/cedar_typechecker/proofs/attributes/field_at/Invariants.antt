use Rattle.std.proofs.Common.{◌≡◌, drop}
use Rattle.std.specs.Rc.{rc_str_bytes}
use Rattle.cedar_typing.specs.Types.{field_at as declared_field}
use Rattle.cedar_typechecker.specs.Types.{fields_view}
use Rattle.cedar_typechecker.proofs.attributes.field_at.Given as goal

abbrev pub invariant-loop-field : goal.invariant-loop-field
invariant-loop-field l =
    declared_field (fields_view l.initial.fields) (rc_str_bytes l.attr) ≡ declared_field (fields_view (drop l.field-index l.fields)) (rc_str_bytes l.attr)
