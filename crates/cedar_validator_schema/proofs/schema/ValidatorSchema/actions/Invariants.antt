-- The uids listed and those still to come are those of the actions.
use Rattle.std.proofs.Common.{◌≡◌, ◌++◌, map}
use Rattle.std.specs.BTreeMap.{keys}
use Rattle.std.specs.Map.Iter.{deref}
use Rattle.cedar_validator_schema.proofs.schema.ValidatorSchema.actions.Given as goal

abbrev pub invariant-loop-uid : goal.invariant-loop-uid
invariant-loop-uid l = map deref l.listed.items ++ l.uid-iterator ≡ keys l.self.actions.by_uid
