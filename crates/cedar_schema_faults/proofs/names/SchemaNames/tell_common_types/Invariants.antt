-- The faults of those so far are told.
use Rattle.std.proofs.Common.{take}
use Rattle.std.specs.Prelude.{map}
use Rattle.cedar_schema_grammar.specs.Faults.{common_type_faults}
use Rattle.cedar_schema_resolution.specs.Declarations.{type_view}
use Rattle.cedar_schema_grammar.specs.Faults.{faults_of_all}
use Rattle.cedar_schema_faults.specs.Telling.{Tells}
use Rattle.cedar_schema_faults.proofs.names.SchemaNames.tell_common_types.Given as goal

abbrev pub invariant-loop-common : goal.invariant-loop-common
invariant-loop-common l = record {
  far : Tells l.self l.fn.told l.told (λ d m. faults_of_all (common_type_faults d m) (map type_view (take l.common-index
      l.types)));
}
