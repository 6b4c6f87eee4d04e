-- Those from a number on are put.
use Rattle.std.proofs.Common.{drop}
use Rattle.std.specs.Prelude.{map}
use Rattle.cedar_schema_resolution.specs.Declarations.{type_view}
use Rattle.cedar_schema_resolution.specs.Numbers.{AreNumbered}
use Rattle.cedar_schema_resolution.proofs.numbers.CommonNumbers.add_types.Given as goal

abbrev pub invariant-loop-number : goal.invariant-loop-number
invariant-loop-number l = record { put : AreNumbered l.number (map type_view (drop l.number l.types)) l.fn.self l.self }
