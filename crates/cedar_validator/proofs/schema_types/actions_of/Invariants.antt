-- What the actions passed apply to is put.
use Rattle.std.proofs.Common.{◌≡◌, map, take}
use Rattle.std.specs.Map.Iter.{deref}
use Rattle.cedar_language.specs.Uid.{Uid}
use Rattle.cedar_language.specs.Order.{same_uid}
use Rattle.cedar_validator_schema.specs.Actions.{application_at}
use Rattle.cedar_validator.specs.SchemaTypes.{action_at}
use Rattle.cedar_validator.proofs.Filled.{so_far}
use Rattle.cedar_validator.proofs.schema_types.actions_of.Given as goal

abbrev pub invariant-loop-uid : goal.invariant-loop-uid
invariant-loop-uid l = (u : Uid) → action_at l.actions u ≡ so_far same_uid (application_at l.schema.actions) (map deref (take l.uid-index l.uid-items)) u
