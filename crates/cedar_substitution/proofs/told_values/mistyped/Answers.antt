-- Unknowns come from the last to the first, so one that is mistyped takes the place of those found before it.
use Rattle.std.proofs.Common.{◌≡◌, ◌∙◌, ap, rules}
use Rattle.std.specs.Option.{option_copied}
use Rattle.cedar_trees.specs.Unknowns.{unknown_name, unknown_type}
use Rattle.cedar_substitution.specs.Told.{told_for}
use Rattle.cedar_substitution.specs.Typed.{mistyped}
use Rattle.cedar_substitution.proofs.Typing.{leftmost_step}
use Rattle.cedar_substitution.proofs.told_values.mistyped.Goals as goal

pub loop-unknown-preserved : goal.loop-unknown-preserved
loop-unknown-preserved g c =
    let told : option_copied c.find_told.result ≡ told_for c.args.told.now.entries (unknown_name c.in-Some.unknown.now) = search rules in
    leftmost_step c.args.told.now.entries _ _ _ (unknown_name c.in-Some.unknown.now, unknown_type c.in-Some.unknown.now) c.in_ok-types.types c.loop-unknown.leftmost _ c.loop-unknown.invariant c.in-Some.ensures.steps (c.in_ok-types.ensures ∙ ap (mistyped (unknown_type c.in-Some.unknown.now)) told) c.or-leftmost.ensures
