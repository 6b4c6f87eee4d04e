-- What stands at the top decides, or else the pairs behind the first, or else the first pair; all of them are lower.
use Rattle.std.proofs.Common.{◌≡◌, ◌<◌, ◌+◌, ◌*◌, ◌∙◌, rules, arith, true, false}
use Rattle.std.specs.Ordering.{is_ne}
use Rattle.cedar_language.specs.Height.{height}
use Rattle.cedar_trees.specs.Bare.{bare}
use Rattle.cedar_shapes.specs.Lists.{here_cmp, pairs_cmp, left_highest}
use Rattle.cedar_shapes.specs.PairsLeft.{pairs_left}
use Rattle.cedar_shapes.proofs.Pairing.{pair_differs, pair_ends, pair_others, pair_goes_on, pair_lower, pairs_lower}
use Rattle.cedar_shapes.proofs.order.+compare.Goals as goal

pub compare-returns-then-is_ne : goal.compare-returns-then-is_ne
compare-returns-then-is_ne g t c =
    let test : is_ne (here_cmp (bare c.loop-a.a.now) (bare c.loop-a.b.now)) ≡ true = search rules in
    let step = pair_differs (bare c.loop-a.a.now) (bare c.loop-a.b.now) test in
    search (rules, step)

pub compare-returns-in_default : goal.compare-returns-in_default
compare-returns-in_default g t c =
    let test : is_ne (here_cmp (bare c.loop-a.a.now) (bare c.loop-a.b.now)) ≡ false = search rules in
    let step = pair_ends (bare c.loop-a.a.now) (bare c.loop-a.b.now) test in
    search (rules, step)

pub compare-compare_all-order-requires : goal.compare-compare_all-order-requires
compare-compare_all-order-requires g t c κs within =
    let low = pairs_lower (bare c.loop-a.a.now) (bare c.loop-a.b.now) (bare c.in-Some.x.now) (bare c.in-Some.y.now) (pairs_left c.in-Some.others) (search rules) in
    let less : 2 * left_highest (pairs_left c.in-Some.others) + 2 < 2 * height (bare c.args.left.now) + 1 = omega (arith, low, c.loop-a.invariant.0) in
    search (rules, less)

pub compare-returns-then-is_ne-2 : goal.compare-returns-then-is_ne-2
compare-returns-then-is_ne-2 g t c =
    let test : is_ne (here_cmp (bare c.loop-a.a.now) (bare c.loop-a.b.now)) ≡ false = search rules in
    let other : is_ne (pairs_cmp (pairs_left c.in-Some.others)) ≡ true = search rules in
    let step = pair_others (bare c.loop-a.a.now) (bare c.loop-a.b.now) (bare c.in-Some.x.now) (bare c.in-Some.y.now) (pairs_left c.in-Some.others) (search rules) test other in
    search (rules, step)

pub compare-loop-a-smaller : goal.compare-loop-a-smaller
compare-loop-a-smaller g t c =
    pair_lower (bare c.loop-a.a.now) (bare c.loop-a.b.now) (bare c.in-Some.x.now) (bare c.in-Some.y.now) (pairs_left c.in-Some.others) (search rules)

pub compare-loop-a-preserved : goal.compare-loop-a-preserved
compare-loop-a-preserved g t c =
    let test : is_ne (here_cmp (bare c.loop-a.a.now) (bare c.loop-a.b.now)) ≡ false = search rules in
    let other : is_ne (pairs_cmp (pairs_left c.in-Some.others)) ≡ false = search rules in
    let low = pair_lower (bare c.loop-a.a.now) (bare c.loop-a.b.now) (bare c.in-Some.x.now) (bare c.in-Some.y.now) (pairs_left c.in-Some.others) (search rules) in
    let step = pair_goes_on (bare c.loop-a.a.now) (bare c.loop-a.b.now) (bare c.in-Some.x.now) (bare c.in-Some.y.now) (pairs_left c.in-Some.others) (search rules) test other in
    (omega (arith, low, c.loop-a.invariant.0), c.loop-a.invariant.1 ∙ step)
