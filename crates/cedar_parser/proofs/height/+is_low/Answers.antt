-- A tree is no higher than a limit where its parts are no higher than the limit below it.
use Rattle.std.proofs.Common.{◌≡◌, ◌∙◌, ◌+◌, ap, suc, rules, arith}
use Rattle.std.specs.Prelude.{nat_le}
use Rattle.cedar_language.specs.Height.{height}
use Rattle.cedar_shapes.specs.Parts.{highest}
use Rattle.cedar_trees.specs.Bare.{bare}
use Rattle.cedar_parser.proofs.Lowness.{parts_decide}
use Rattle.cedar_parser.proofs.height.+is_low.Goals as goal

pub is_low-returns-in-Some : goal.is_low-returns-in-Some
is_low-returns-in-Some g t c =
    let step : c.args.depth ≡ c.in-Some.below + 1 = search rules in
    let next : suc c.in-Some.below ≡ c.args.depth = omega (arith, step) in
    c.are_low.ensures ∙ ap (λ ts. nat_le (highest ts) c.in-Some.below) c.of.ensures ∙ parts_decide (bare c.args.expr.now) c.in-Some.below ∙ ap (nat_le (height (bare c.args.expr.now))) next
