use Rattle.std.proofs.Common.{◌≡◌, ◌++◌, length, map}
use Rattle.cedar_typechecker.specs.Types.{type_view, field_view}
use Rattle.cedar_typechecker.specs.Records.{texts, required}
use Rattle.cedar_typechecker.proofs.records.required_fields.Given as goal

abbrev pub invariant-loop-key : goal.invariant-loop-key
invariant-loop-key l =
    (goal.iterator-loop-key).can_next l.key-iterator ×
    (goal.iterator-loop-key).is_finite l.key-iterator ×
    (map field_view l.fields.items ++ required (texts l.key-iterator) (map type_view l.left.rest.items) ≡ required (texts l.entries.entries) (map type_view l.fn.types.items)) ×
    (length l.left.rest.items ≡ length l.key-iterator)
