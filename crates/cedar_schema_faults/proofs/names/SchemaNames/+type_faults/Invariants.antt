-- The faults of the attributes so far are told.
use Rattle.std.proofs.Common.{take}
use Rattle.std.specs.Prelude.{map}
use Rattle.cedar_schema_grammar.specs.Faults.{attribute_faults}
use Rattle.cedar_schema_syntax.specs.View.{attribute_view, attributes_of}
use Rattle.cedar_schema_faults.specs.Telling.{Tells}
use Rattle.cedar_schema_faults.proofs.names.SchemaNames.+type_faults.Given as goal

abbrev pub invariant-tell_attributes-loop-attribute : goal.invariant-tell_attributes-loop-attribute
invariant-tell_attributes-loop-attribute l = record {
  far : Tells l.self l.fn.told l.told (λ d m. attribute_faults d m l.namespace (attributes_of (map attribute_view (take l.attribute-index l.attributes))));
}
