-- Those so far are resolved.
use Rattle.std.proofs.Common.{take}
use Rattle.cedar_schema_resolution.specs.Declarations.{declared_view}
use Rattle.cedar_schema_resolution.specs.Resolved.{AreResolved}
use Rattle.cedar_schema_resolution.proofs.resolution.resolve_each.Given as goal

abbrev pub invariant-loop-number : goal.invariant-loop-number
invariant-loop-number l = record { done : AreResolved (declared_view l.declared) l.numbers (take l.number-index l.order) l.fn.table l.table }
