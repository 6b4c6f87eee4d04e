-- Those so far have their keys.
use Rattle.std.proofs.Common.{take}
use Rattle.std.specs.Prelude.{map}
use Rattle.cedar_schema_grammar.specs.Faults as grammar
use Rattle.cedar_schema_syntax.specs.View.{attribute_view, Written}
use Rattle.cedar_schema_faults.specs.Repeats.{HaveKeys}
use Rattle.cedar_schema_faults.proofs.duplicates.keyed_attributes.Given as goal

abbrev pub invariant-loop-attribute : goal.invariant-loop-attribute
invariant-loop-attribute l = record {
  keys : HaveKeys grammar.DuplicateAttribute (map (λ (w : Written). w.name) (map attribute_view (take l.attribute-index
      l.attributes))) l.keyed.items;
}
