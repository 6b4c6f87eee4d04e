use Rattle.std.proofs.Common.{◌≡◌, drop}
use Rattle.cedar_trees.specs.Bare.{bare}
use Rattle.cedar_typing.specs.Capabilities.{a_tag, is_among}
use Rattle.cedar_typechecker.specs.Capabilities.{capabilities_view}
use Rattle.cedar_typechecker.proofs.capabilities.has_tag.Given as goal

abbrev pub invariant-loop-capability : goal.invariant-loop-capability
invariant-loop-capability l =
    is_among (a_tag (bare l.of) (bare l.key)) (capabilities_view l.initial.held) ≡ is_among (a_tag (bare l.of) (bare l.key)) (capabilities_view (drop l.capability-index l.held))
