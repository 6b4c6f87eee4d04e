-- Those so far are put.
use Rattle.std.proofs.Common.{take, Some}
use Rattle.std.specs.Prelude.{map}
use Rattle.cedar_typing.specs.Types.{Entities}
use Rattle.cedar_schema_grammar.specs.Declared.{entity_name}
use Rattle.cedar_schema_resolution.specs.Declarations.{entity_view}
use Rattle.cedar_schema_resolution.specs.Puts.{ArePut, SameBuiltIn}
use Rattle.cedar_schema_resolution.proofs.table.put_entities.Given as goal

abbrev pub invariant-loop-entity : goal.invariant-loop-entity
invariant-loop-entity l = record {
  put : ArePut (map (λ x. entity_name (entity_view x)) (take l.entity-index l.entities)) (λ n. Some (Entities n)) l.fn.table l.table;
  built_in : SameBuiltIn l.fn.table l.table;
}
