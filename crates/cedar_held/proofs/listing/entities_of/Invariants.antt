use Rattle.std.proofs.Common.{map, drop}
use Rattle.cedar_extensions.specs.Table.{as_table}
use Rattle.cedar_held.specs.Entities.{written_of}
use Rattle.cedar_held.proofs.Listed.{IsUnderway}
use Rattle.cedar_held.proofs.listing.entities_of.Given as goal

abbrev pub invariant-loop-body : goal.invariant-loop-body
invariant-loop-body g l = IsUnderway (as_table g.F.ExtensionFunctionObject.answers l.extensions) (map written_of l.bodies) (map written_of (drop l.body-index l.bodies)) l.entities.items l.holds_unknown
