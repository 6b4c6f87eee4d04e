-- What stands here is fed, then the parts behind the first, and then the first; each part is lower than the whole.
use Rattle.std.proofs.Common.{◌<◌, ◌+◌, ◌*◌, ◌∙◌, sym, rules, arith}
use Rattle.cedar_language.specs.Height.{height}
use Rattle.cedar_trees.specs.Bare.{bare}
use Rattle.cedar_shapes.specs.Parts.{highest}
use Rattle.cedar_shapes.specs.PartsLeft.{parts_left}
use Rattle.cedar_shapes.proofs.Steps.{fed_ends, fed_goes_on, first_lower, others_lower}
use Rattle.cedar_shapes.proofs.order.+feed.Goals as goal

pub feed-returns-in_default : goal.feed-returns-in_default
feed-returns-in_default g t c =
    sym (c.loop-first.invariant.1 ∙ fed_ends g.H.Hasher.write c.loop-first.state c.feed_here.new.state (bare c.loop-first.e.now) c.feed_here.ensures (search rules))

pub feed-feed_all-requires : goal.feed-feed_all-requires
feed-feed_all-requires g t c κs within =
    let low = others_lower (bare c.loop-first.e.now) (bare c.in-Some.first.now) (parts_left c.in-Some.others) (search rules) in
    let less : 2 * highest (parts_left c.in-Some.others) + 2 < 2 * height (bare c.args.expr.now) + 1 = omega (arith, low, c.loop-first.invariant.0) in
    search (rules, less)

pub feed-loop-first-smaller : goal.feed-loop-first-smaller
feed-loop-first-smaller g t c = first_lower (bare c.loop-first.e.now) (bare c.in-Some.first.now) (parts_left c.in-Some.others) (search rules)

pub feed-loop-first-preserved : goal.feed-loop-first-preserved
feed-loop-first-preserved g t c =
    let low = first_lower (bare c.loop-first.e.now) (bare c.in-Some.first.now) (parts_left c.in-Some.others) (search rules) in (
      omega (arith, low, c.loop-first.invariant.0),
      c.loop-first.invariant.1 ∙ fed_goes_on g.H.Hasher.write c.loop-first.state c.feed_here.new.state (bare c.loop-first.e.now) c.feed_here.ensures (bare c.in-Some.first.now) (parts_left c.in-Some.others) c.feed_all.new.state (search rules) c.feed_all.ensures,
    )
