use Rattle.std.proofs.Common.{◌≡◌, ◌++◌, drop}
use Rattle.cedar_typing.specs.Capabilities.{in_both}
use Rattle.cedar_typechecker.specs.Capabilities.{capabilities_view}
use Rattle.cedar_typechecker.proofs.capabilities.in_both.Given as goal

abbrev pub invariant-loop-capability : goal.invariant-loop-capability
invariant-loop-capability l =
    capabilities_view l.both.items ++ in_both (capabilities_view (drop l.capability-index l.capabilities)) (capabilities_view l.others)
    ≡ in_both (capabilities_view l.capabilities) (capabilities_view l.others)
