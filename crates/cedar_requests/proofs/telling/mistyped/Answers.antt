-- The lemmas of Mistyping: one more unknown, to the left of those before it.
use Rattle.std.proofs.Common.{◌≡◌, subst, rules}
use Rattle.std.specs.Option.{option_copied}
use Rattle.cedar_trees.specs.Unknowns.{unknown_name, unknown_type}
use Rattle.cedar_substitution.specs.Told.{told_for}
use Rattle.cedar_substitution.specs.Typed.{mistyped}
use Rattle.cedar_requests.specs.Telling.{IsMistypingOf}
use Rattle.cedar_requests.proofs.Mistyping.{goes_on}
use Rattle.cedar_requests.proofs.telling.mistyped.Goals as goal

pub loop-unknown-preserved : goal.loop-unknown-preserved
loop-unknown-preserved c =
    let told : option_copied c.find_told.result ≡ told_for c.args.told.now.entries (unknown_name c.in-Some.unknown.now) = search rules in
    goes_on c.args.told.now.entries _ _ _ (unknown_name c.in-Some.unknown.now, unknown_type c.in-Some.unknown.now) c.in_ok-error.error c.loop-unknown.leftmost _ c.loop-unknown.invariant c.in-Some.ensures.steps
    (subst (λ v. IsMistypingOf (mistyped (unknown_type c.in-Some.unknown.now) v) c.in_ok-error.error) told c.in_ok-error.ensures) c.or-leftmost.ensures
