-- The edges stay.
use Rattle.std.proofs.Common.{sym, subst}
use Rattle.cedar_schema.specs.Orders.{AreWithin}
use Rattle.cedar_schema.proofs.ordering.Walk.walk_from.Goals as goal

pub step-requires-clause-within : goal.step-requires-clause-within
step-requires-clause-within c = subst AreWithin (sym c.loop-top.invariant.edges) c.requires.within
