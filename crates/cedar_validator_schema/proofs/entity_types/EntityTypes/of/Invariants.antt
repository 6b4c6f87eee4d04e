-- Those from a number on are put.
use Rattle.std.proofs.Common.{drop}
use Rattle.std.specs.Prelude.{map}
use Rattle.cedar_schema_resolution.specs.Declarations.{entity_view}
use Rattle.cedar_validator_schema.specs.EntityTypes.{AreTypes}
use Rattle.cedar_validator_schema.proofs.entity_types.EntityTypes.of.Given as goal

abbrev pub invariant-loop-number : goal.invariant-loop-number
invariant-loop-number l = record { put : AreTypes l.table l.names (map entity_view (drop l.number l.entities)) l.types }
