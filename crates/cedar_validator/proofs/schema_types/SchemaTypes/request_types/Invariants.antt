-- The requests listed and those of the actions left are those of all actions.
use Rattle.std.proofs.Common.{◌≡◌, ◌++◌, map}
use Rattle.cedar_validator.specs.SchemaTypes.{requests_in}
use Rattle.cedar_validator.specs.Environments.{request_view}
use Rattle.cedar_validator.proofs.schema_types.SchemaTypes.request_types.Given as goal

abbrev pub invariant-loop-uid : goal.invariant-loop-uid
invariant-loop-uid l =
    goal.iterator-loop-uid.can_next l.uid-iterator ×
    goal.iterator-loop-uid.is_finite l.uid-iterator ×
    (map request_view l.listed.items ++ requests_in l.uid-iterator ≡ requests_in l.self.actions.entries)
