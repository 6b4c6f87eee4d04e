-- The construct must be one of those that may stand there, and each part, which is lower, must do as well.
use Rattle.std.proofs.Common.{◌≡◌, ◌<◌, ◌+◌, ◌*◌, rules, arith, true, false}
use Rattle.cedar_language.specs.Height.{height}
use Rattle.cedar_trees.specs.Bare.{bare}
use Rattle.cedar_shapes.specs.Leaves.{is_projectable_kind}
use Rattle.cedar_shapes.specs.Parts.{highest}
use Rattle.cedar_shapes.specs.PartsLeft.{parts_left}
use Rattle.cedar_shapes.proofs.Projecting.{other_kind, parts_decide}
use Rattle.cedar_shapes.proofs.Steps.{parts_lower}
use Rattle.cedar_shapes.proofs.leaves.+projectable.Goals as goal

pub projectable-returns-then-not-has_projectable_kind : goal.projectable-returns-then-not-has_projectable_kind
projectable-returns-then-not-has_projectable_kind g t c =
    let test : is_projectable_kind (bare c.args.expr.now) ≡ false = search rules in
    other_kind (bare c.args.expr.now) test

pub projectable-all_projectable-requires : goal.projectable-all_projectable-requires
projectable-all_projectable-requires g t c κs within =
    let less : 2 * highest (parts_left c.of.result) + 2 < 2 * height (bare c.args.expr.now) + 1 = rw c.of.ensures (omega (arith, parts_lower (bare c.args.expr.now))) in
    search (rules, less)

pub projectable-returns : goal.projectable-returns
projectable-returns g t c =
    let test : is_projectable_kind (bare c.args.expr.now) ≡ true = search rules in
    let step = parts_decide (bare c.args.expr.now) test in
    search (rules, step)
