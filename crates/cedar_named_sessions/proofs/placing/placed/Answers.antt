-- By the law that a merge with a text's policies is the world's load of it.
use Rattle.std.proofs.Common.{◌<◌, ◌^◌, subst}
use Rattle.cedar_named_sessions.specs.Giving.{given_by}
use Rattle.cedar_named_sessions.proofs.Given.{are_placed, ok_more}
use Rattle.cedar_named_sessions.proofs.placing.placed.Goals as goal

pub returns : goal.returns
returns c =
    let small = subst (λ n. n < 2 ^ 63) c.len-policies.ensures.len c.len-policies.ensures.small in
    ok_more (λ placed is. are_placed c.in_ok-renaming.renaming (given_by c.args.given) c.args.held.now c.args.policies.now placed.items c.texts_are_loaded.ensures
    c.len-held.ensures.whole c.requires small c.in_ok-renaming.ensures is) c.placed_by.result c.placed_by.ensures
