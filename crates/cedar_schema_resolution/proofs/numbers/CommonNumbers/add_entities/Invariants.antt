-- Those from a number on are put.
use Rattle.std.proofs.Common.{drop}
use Rattle.std.specs.Prelude.{map}
use Rattle.cedar_schema_resolution.specs.Declarations.{entity_view}
use Rattle.cedar_schema_resolution.specs.Numbers.{HasNone}
use Rattle.cedar_schema_resolution.proofs.numbers.CommonNumbers.add_entities.Given as goal

abbrev pub invariant-loop-number : goal.invariant-loop-number
invariant-loop-number l = record { put : HasNone (map entity_view (drop l.number l.entities)) l.fn.self l.self }
