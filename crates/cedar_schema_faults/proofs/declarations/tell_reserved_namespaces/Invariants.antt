-- Those so far are told.
use Rattle.std.proofs.Common.{◌≡◌, ◌++◌, take}
use Rattle.std.specs.Prelude.{map}
use Rattle.cedar_schema_grammar.specs.Faults.{faults_of_all, namespace_faults}
use Rattle.cedar_schema_syntax.specs.View.{namespace_view}
use Rattle.cedar_schema_faults.specs.Views.{faults_view}
use Rattle.cedar_schema_faults.proofs.declarations.tell_reserved_namespaces.Given as goal

abbrev pub invariant-loop-block : goal.invariant-loop-block
invariant-loop-block l = record {
  far : faults_view l.told ≡ faults_view l.fn.told ++ faults_of_all namespace_faults (map namespace_view (take l.block-index l.blocks));
}
