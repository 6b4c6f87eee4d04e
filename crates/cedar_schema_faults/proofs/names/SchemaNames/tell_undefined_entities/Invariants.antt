-- The faults of those so far are told.
use Rattle.std.proofs.Common.{take}
use Rattle.std.specs.Prelude.{map}
use Rattle.cedar_schema_grammar.specs.Faults.{entity_name_faults}
use Rattle.cedar_schema_syntax.specs.View.{path_view}
use Rattle.cedar_schema_grammar.specs.Faults.{faults_of_all}
use Rattle.cedar_schema_faults.specs.Telling.{Tells}
use Rattle.cedar_schema_faults.proofs.names.SchemaNames.tell_undefined_entities.Given as goal

abbrev pub invariant-loop-path : goal.invariant-loop-path
invariant-loop-path l = record {
  far : Tells l.self l.fn.told l.told (λ d m. faults_of_all (entity_name_faults d l.namespace) (map path_view (take
      l.path-index l.paths)));
}
