-- The types of the first actions.
use Rattle.std.proofs.Common.{◌≡◌, take}
use Rattle.std.specs.Prelude.{map}
use Rattle.std.specs.BTreeSet.{contains}
use Rattle.cedar_language.specs.Uid.{Name}
use Rattle.cedar_language.specs.Order.{name_cmp}
use Rattle.cedar_schema_resolution.specs.Declarations.{action_view}
use Rattle.cedar_validator_schema.specs.Actions.{is_type_among}
use Rattle.cedar_validator_schema.proofs.action_types.action_types_of.Given as goal

abbrev pub invariant-loop-action : goal.invariant-loop-action
invariant-loop-action l = record { types : (n : Name) → contains name_cmp l.types n ≡ is_type_among (map action_view (take l.action-index l.actions)) n }
