-- Those so far have their names.
use Rattle.std.proofs.Common.{take}
use Rattle.std.specs.Prelude.{map}
use Rattle.cedar_schema_resolution.specs.Declarations.{entity_view}
use Rattle.cedar_schema_resolution.specs.Parents.{HaveNames}
use Rattle.cedar_schema_resolution.proofs.parents.EntityNames.of.Given as goal

abbrev pub invariant-loop-entity : goal.invariant-loop-entity
invariant-loop-entity l = record { names : HaveNames (map entity_view (take l.entity-index l.entities)) l.names }
