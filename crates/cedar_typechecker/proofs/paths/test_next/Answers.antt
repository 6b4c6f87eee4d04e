-- By what is known of the tests so far.
use Rattle.std.proofs.Common.{◌≡◌, rules, Some, None}
use Rattle.std.specs.Rc.{rc_str_bytes}
use Rattle.cedar_trees.specs.Bare.{bare}
use Rattle.cedar_typing.specs.Types.{AlwaysTrue, AlwaysFalse, Unsure}
use Rattle.cedar_typechecker.specs.Capabilities.{capabilities_view}
use Rattle.cedar_typechecker.specs.Types.{bool_type_in, type_view}
use Rattle.cedar_typechecker.proofs.Pathed.{rest_untold, rest_never, rest_as}
use Rattle.cedar_typechecker.proofs.paths.test_next.Goals as goal

pub returns-in-None : goal.returns-in-None
returns-in-None g c =
    let told : None ≡ bool_type_in (type_view c.args.reached.found.expr_type) = search rules in
    λ bs. rest_untold (g.E.RequestEnv.environment c.args.env.now) (bare c.args.reached.of.value) (rc_str_bytes c.args.attr.now) (rc_str_bytes c.args.next.now) bs (capabilities_view c.args.held.now) (type_view c.args.reached.of_type) (type_view c.args.reached.found.expr_type) (capabilities_view c.args.reached.found.capabilities.items) told

pub returns-in-Some-AlwaysFalse : goal.returns-in-Some-AlwaysFalse
returns-in-Some-AlwaysFalse g c =
    let told : Some AlwaysFalse ≡ bool_type_in (type_view c.args.reached.found.expr_type) = search rules in
    λ bs. rest_never (g.E.RequestEnv.environment c.args.env.now) (bare c.args.reached.of.value) (rc_str_bytes c.args.attr.now) (rc_str_bytes c.args.next.now) bs (capabilities_view c.args.held.now) (type_view c.args.reached.of_type) (type_view c.args.reached.found.expr_type) (capabilities_view c.args.reached.found.capabilities.items) told

pub returns-in-Some-AlwaysTrue : goal.returns-in-Some-AlwaysTrue
returns-in-Some-AlwaysTrue g c =
    let told : Some AlwaysTrue ≡ bool_type_in (type_view c.args.reached.found.expr_type) = search rules in
    λ bs. rest_as (g.E.RequestEnv.environment c.args.env.now) (bare c.args.reached.of.value) (rc_str_bytes c.args.attr.now) (rc_str_bytes c.args.next.now) bs (capabilities_view c.args.held.now) (type_view c.args.reached.of_type) (type_view c.args.reached.found.expr_type) AlwaysTrue (capabilities_view c.args.reached.found.capabilities.items) c.test_behind.result told (c.test_behind.ensures bs)

pub returns : goal.returns
returns g c =
    let told : Some Unsure ≡ bool_type_in (type_view c.args.reached.found.expr_type) = search rules in
    λ bs. rest_as (g.E.RequestEnv.environment c.args.env.now) (bare c.args.reached.of.value) (rc_str_bytes c.args.attr.now) (rc_str_bytes c.args.next.now) bs (capabilities_view c.args.held.now) (type_view c.args.reached.of_type) (type_view c.args.reached.found.expr_type) Unsure (capabilities_view c.args.reached.found.capabilities.items) c.test_behind-in-Some-Unsure.result told (c.test_behind-in-Some-Unsure.ensures bs)
