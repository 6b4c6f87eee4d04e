-- An unknown is the expression itself, or stands in a part behind the first, or in the first; parts are lower.
use Rattle.std.proofs.Common.{◌≡◌, ◌<◌, ◌+◌, ◌*◌, ◌∙◌, rules, arith, true, false}
use Rattle.std.specs.List.{list_any}
use Rattle.cedar_language.specs.Height.{height}
use Rattle.cedar_trees.specs.Bare.{bare}
use Rattle.cedar_shapes.specs.Leaves.{is_unknown_tree}
use Rattle.cedar_shapes.specs.Parts.{highest}
use Rattle.cedar_shapes.specs.PartsLeft.{parts_left}
use Rattle.cedar_shapes.specs.Positions.{waiting}
use Rattle.cedar_shapes.proofs.Steps.{first_lower, others_lower}
use Rattle.cedar_shapes.proofs.Walking.{unknown_here, unknown_ends, unknown_others, unknown_goes_on}
use Rattle.cedar_shapes.proofs.leaves.+has_unknown.Goals as goal

pub has_unknown-returns-then-is_unknown : goal.has_unknown-returns-then-is_unknown
has_unknown-returns-then-is_unknown g t c =
    let test : is_unknown_tree (bare c.loop-e.e.now) ≡ true = search rules in
    let step = unknown_here (bare c.loop-e.e.now) test in
    search (rules, step)

pub has_unknown-returns-in_default : goal.has_unknown-returns-in_default
has_unknown-returns-in_default g t c =
    let test : is_unknown_tree (bare c.loop-e.e.now) ≡ false = search rules in
    let step = unknown_ends (bare c.loop-e.e.now) test (search rules) in
    search (rules, step)

pub has_unknown-any_has_unknown-requires : goal.has_unknown-any_has_unknown-requires
has_unknown-any_has_unknown-requires g t c κs within =
    let low = others_lower (bare c.loop-e.e.now) (bare c.in-Some.first.now) (parts_left c.in-Some.others) (search rules) in
    let less : 2 * highest (parts_left c.in-Some.others) + 2 < 2 * height (bare c.args.expr.now) + 1 = omega (arith, low, c.loop-e.invariant.0) in
    search (rules, less)

pub has_unknown-returns-then-any_has_unknown : goal.has_unknown-returns-then-any_has_unknown
has_unknown-returns-then-any_has_unknown g t c =
    let test : is_unknown_tree (bare c.loop-e.e.now) ≡ false = search rules in
    let other : list_any is_unknown_tree (waiting (parts_left c.in-Some.others)) ≡ true = search rules in
    let step = unknown_others (bare c.loop-e.e.now) test (bare c.in-Some.first.now) (parts_left c.in-Some.others) (search rules) other in
    search (rules, step)

pub has_unknown-loop-e-smaller : goal.has_unknown-loop-e-smaller
has_unknown-loop-e-smaller g t c = first_lower (bare c.loop-e.e.now) (bare c.in-Some.first.now) (parts_left c.in-Some.others) (search rules)

pub has_unknown-loop-e-preserved : goal.has_unknown-loop-e-preserved
has_unknown-loop-e-preserved g t c =
    let test : is_unknown_tree (bare c.loop-e.e.now) ≡ false = search rules in
    let other : list_any is_unknown_tree (waiting (parts_left c.in-Some.others)) ≡ false = search rules in
    let low = first_lower (bare c.loop-e.e.now) (bare c.in-Some.first.now) (parts_left c.in-Some.others) (search rules) in
    let step = unknown_goes_on (bare c.loop-e.e.now) test (bare c.in-Some.first.now) (parts_left c.in-Some.others) (search rules) other in
    (omega (arith, low, c.loop-e.invariant.0), c.loop-e.invariant.1 ∙ step)
