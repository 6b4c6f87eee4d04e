use Rattle.std.proofs.Common.{◌≡◌, drop, map}
use Rattle.std.specs.Rc.{rc_str_bytes}
use Rattle.cedar_trees.specs.Bare.{bare}
use Rattle.cedar_typing.specs.Attributes.{path_type}
use Rattle.cedar_typechecker.specs.Capabilities.{capabilities_view}
use Rattle.cedar_typechecker.specs.Paths.{rest_type}
use Rattle.cedar_typechecker.specs.Results.{typing_view}
use Rattle.cedar_typechecker.specs.Types.{type_view}
use Rattle.cedar_typechecker.proofs.paths.has_path_type.Given as goal

abbrev pub invariant-loop-next : goal.invariant-loop-next
invariant-loop-next g l =
    let e = g.E.RequestEnv.environment l.env in
    path_type e (bare l.fn.of.value) (rc_str_bytes l.attrs.head) (map rc_str_bytes l.attrs.tail.items) (capabilities_view l.held) (type_view l.fn.of_type)
    ≡ rest_type e (bare l.reached.of.value) (rc_str_bytes l.attr) (map rc_str_bytes (drop l.next-index l.attrs.tail.items)) (capabilities_view l.held) (type_view l.reached.of_type) (typing_view l.reached.found)
