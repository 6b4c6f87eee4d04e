-- The edges of the common types so far.
use Rattle.std.proofs.Common.{take}
use Rattle.std.specs.Prelude.{map}
use Rattle.cedar_schema_resolution.specs.Declarations.{type_view}
use Rattle.cedar_schema_resolution.specs.Mentions.{AreMentioned}
use Rattle.cedar_schema_resolution.proofs.numbers.CommonNumbers.mentioned.Given as goal

abbrev pub invariant-loop-common : goal.invariant-loop-common
invariant-loop-common l = record { rows : AreMentioned l.self (map type_view (take l.common-index l.types)) l.all.items }
