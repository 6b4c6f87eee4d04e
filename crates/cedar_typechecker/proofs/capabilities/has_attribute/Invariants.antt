use Rattle.std.proofs.Common.{◌≡◌, drop}
use Rattle.std.specs.Rc.{rc_str_bytes}
use Rattle.cedar_trees.specs.Bare.{bare}
use Rattle.cedar_typing.specs.Capabilities.{an_attribute, is_among}
use Rattle.cedar_typechecker.specs.Capabilities.{capabilities_view}
use Rattle.cedar_typechecker.proofs.capabilities.has_attribute.Given as goal

abbrev pub invariant-loop-capability : goal.invariant-loop-capability
invariant-loop-capability l =
    is_among (an_attribute (bare l.of) (rc_str_bytes l.attr)) (capabilities_view l.initial.held) ≡ is_among (an_attribute (bare l.of) (rc_str_bytes l.attr)) (capabilities_view (drop l.capability-index l.held))
