-- What is left of a set or of a record decides as the whole does; what stands in a value weighs less.
use Rattle.std.proofs.Common.{◌≡◌, ◌+◌, ◌*◌, drop}
use Rattle.cedar_language.specs.Order.{all_of}
use Rattle.cedar_typing.specs.Deciding.{is_value_of, all_are}
use Rattle.std.specs.Option.{option_map}
use Rattle.cedar_schema.specs.Types.{type_view, named_views}
use Rattle.cedar_values.specs.Kinds.{values_of}
use Rattle.cedar_values.specs.Sizes.{weigh, weigh_all}
use Rattle.cedar_conformance.specs.Walks.{left_of}
use Rattle.cedar_conformance.proofs.Walking.{Walks}
use Rattle.cedar_conformance.proofs.values.+values.Given as goal

abbrev pub decreases-has_type : goal.decreases-has_type
decreases-has_type l = 2 * weigh l.value.now

abbrev pub decreases-is_declared_so : goal.decreases-is_declared_so
decreases-is_declared_so l = 2 * weigh l.value.now + 1

abbrev pub decreases-have_type : goal.decreases-have_type
decreases-have_type l = 2 * weigh_all (all_of l.values.now) + 1

abbrev pub decreases-have_attributes : goal.decreases-have_attributes
decreases-have_attributes l = 2 * weigh_all (values_of l.fields.now.entries) + 1

abbrev pub invariant-have_type-loop-value : goal.invariant-have_type-loop-value
invariant-have_type-loop-value l =
    all_are (is_value_of (type_view l.schema_type)) (all_of (drop l.value-index l.values)) ≡ all_are (is_value_of (type_view l.schema_type)) (all_of l.values)

abbrev pub invariant-have_attributes-loop-name : goal.invariant-have_attributes-loop-name
invariant-have_attributes-loop-name l =
    goal.iterator-have_attributes-loop-name.can_next l.name-iterator ×
    goal.iterator-have_attributes-loop-name.is_finite l.name-iterator ×
    Walks (named_views l.attributes.entries) l.fields.entries (named_views l.name-iterator) (left_of (option_map (λ e. (e.0.now, e.1.now)) l.ahead) l.behind)
