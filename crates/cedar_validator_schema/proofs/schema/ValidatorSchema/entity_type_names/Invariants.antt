-- The names listed and those still to come are those of the types that are known.
use Rattle.std.proofs.Common.{◌≡◌, ◌++◌, map}
use Rattle.std.specs.List.{filter}
use Rattle.std.specs.Map.Iter.{deref}
use Rattle.cedar_validator_schema.proofs.Shaped.{is_shaped, shaped_names}
use Rattle.cedar_validator_schema.proofs.schema.ValidatorSchema.entity_type_names.Given as goal

abbrev pub invariant-loop-name : goal.invariant-loop-name
invariant-loop-name l =
    map deref l.listed.items ++ filter (is_shaped l.self) l.name-iterator ++ filter (is_shaped l.self) l.self.action_types.keys ≡ shaped_names l.self

abbrev pub invariant-loop-action_type : goal.invariant-loop-action_type
invariant-loop-action_type l = map deref l.listed.items ++ filter (is_shaped l.self) l.action_type-iterator ≡ shaped_names l.self
