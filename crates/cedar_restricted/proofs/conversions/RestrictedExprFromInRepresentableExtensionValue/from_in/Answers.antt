-- The call that makes an extension value is ground, and ground trees are restricted.
use Rattle.std.proofs.Common.{}
use Rattle.cedar_trees.specs.Bare.{bare}
use Rattle.cedar_restricted.proofs.conversions.RestrictedExprFromInRepresentableExtensionValue.from_in.Goals as goal

pub new_unchecked-requires : goal.new_unchecked-requires
new_unchecked-requires c = c.written_values_are_restricted.ensures.ground (bare c.in_ok-to_expr.field-0) c.in_ok-to_expr.ensures.1
