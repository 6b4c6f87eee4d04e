use Rattle.std.proofs.Common.{◌≡◌, ◌++◌, drop}
use Rattle.cedar_typechecker.specs.Capabilities.{capabilities_view}
use Rattle.cedar_typechecker.proofs.capabilities.with_copies.Given as goal

abbrev pub invariant-loop-capability : goal.invariant-loop-capability
invariant-loop-capability l =
    capabilities_view l.all.items ++ capabilities_view (drop l.capability-index l.others)
    ≡ capabilities_view l.fn.capabilities.items ++ capabilities_view l.others
