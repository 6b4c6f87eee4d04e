-- Those from a number on are put.
use Rattle.std.proofs.Common.{drop}
use Rattle.std.specs.Prelude.{map}
use Rattle.cedar_schema_resolution.specs.Declarations.{action_view}
use Rattle.cedar_validator_schema.specs.Actions.{AreActions}
use Rattle.cedar_validator_schema.proofs.actions.Actions.of.Given as goal

abbrev pub invariant-loop-number : goal.invariant-loop-number
invariant-loop-number l = record { put : AreActions l.names (map action_view (drop l.number l.declared)) l.actions }
