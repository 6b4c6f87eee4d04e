-- Those so far have their keys.
use Rattle.std.proofs.Common.{take}
use Rattle.std.specs.Prelude.{map}
use Rattle.cedar_schema_grammar.specs.Faults as grammar
use Rattle.cedar_schema_grammar.specs.Declared.{entity_name}
use Rattle.cedar_schema_resolution.specs.Declarations.{entity_view}
use Rattle.cedar_schema_faults.specs.Repeats.{HaveKeys}
use Rattle.cedar_schema_faults.proofs.duplicates.keyed_entities.Given as goal

abbrev pub invariant-loop-entity : goal.invariant-loop-entity
invariant-loop-entity l = record {
  keys : HaveKeys grammar.DuplicateEntityType (map entity_name (map entity_view (take l.entity-index l.entities)))
      l.keyed.items;
}
