-- An offence is found exactly where the residual isn't restricted.
use Rattle.std.proofs.Common.{◌∙◌, sym, refl}
use Rattle.cedar_trees.specs.Bare.{bare}
use Rattle.cedar_restricted.proofs.Offending.{seen_none, seen_some}
use Rattle.cedar_restricted.proofs.conversions.restricted_residual.Goals as goal

pub new_unchecked-requires : goal.new_unchecked-requires
new_unchecked-requires c = seen_none c.first_offence.result (bare c.args.residual) c.first_offence.ensures (sym c.is_some.ensures ∙ c.if-is_some.false)

pub returns-then-is_some : goal.returns-then-is_some
returns-then-is_some c = (refl, seen_some c.first_offence.result (bare c.args.residual) c.first_offence.ensures (sym c.is_some.ensures ∙ c.if-is_some.true))
