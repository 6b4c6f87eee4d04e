-- The fields found and the attributes left are those of the record; a type is larger than its parts.
use Rattle.std.proofs.Common.{◌≡◌, ◌≤◌, ◌+◌, ◌*◌, ◌++◌, map, true}
use Rattle.cedar_language.specs.Uid.{Name}
use Rattle.cedar_schema.specs.Types.{type_view, fields_of, named_views, listed}
use Rattle.cedar_typechecker.specs.Types.{field_view}
use Rattle.cedar_validator.specs.Converting.{some_names}
use Rattle.cedar_validator.proofs.Converted.{size, sizes}
use Rattle.cedar_validator.proofs.conversion.+expr_type.Given as goal

abbrev pub decreases-expr_type : goal.decreases-expr_type
decreases-expr_type l = 2 * size (type_view l.schema_type.now)

abbrev pub decreases-expr_fields : goal.decreases-expr_fields
decreases-expr_fields l = 2 * sizes (fields_of l.attributes.now) + 1

abbrev pub invariant-expr_fields-loop-name : goal.invariant-expr_fields-loop-name
invariant-expr_fields-loop-name l =
    goal.iterator-expr_fields-loop-name.can_next l.name-iterator ×
    goal.iterator-expr_fields-loop-name.is_finite l.name-iterator ×
    (map field_view l.fields.items ++ named_views l.name-iterator ≡ named_views l.attributes.entries) ×
    (sizes (listed (named_views l.name-iterator)) ≤ sizes (fields_of l.attributes)) ×
    ((n : Name) → some_names (listed (named_views l.name-iterator)) n ≡ true → some_names (fields_of l.attributes) n ≡ true)
