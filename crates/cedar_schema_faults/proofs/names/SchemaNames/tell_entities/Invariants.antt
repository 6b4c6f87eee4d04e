-- The faults of those so far are told.
use Rattle.std.proofs.Common.{take}
use Rattle.std.specs.Prelude.{map}
use Rattle.cedar_schema_grammar.specs.Faults.{entity_faults}
use Rattle.cedar_schema_resolution.specs.Declarations.{entity_view}
use Rattle.cedar_schema_grammar.specs.Faults.{faults_of_all}
use Rattle.cedar_schema_faults.specs.Telling.{Tells}
use Rattle.cedar_schema_faults.proofs.names.SchemaNames.tell_entities.Given as goal

abbrev pub invariant-loop-entity : goal.invariant-loop-entity
invariant-loop-entity l = record {
  far : Tells l.self l.fn.told l.told (λ d m. faults_of_all (entity_faults d m) (map entity_view (take l.entity-index
      l.entities)));
}
