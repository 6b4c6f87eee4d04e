-- What restricted expressions are made of partial values.
use Rattle.std.specs.Prelude.{◌≡◌, ⊤, false, Result, Ok, Err}
use Rattle.either.specs.declared.Either.{Either}
use Rattle.either.specs.declared.Either.TheVariants.{Right}
use Rattle.cedar_language.specs.Tree.{Tree}
use Rattle.cedar_language.specs.Value.{Value}
use Rattle.cedar_language.specs.Restricted.{is_restricted}
use Rattle.cedar_trees.specs.Bare.{bare}
use Rattle.cedar_restricted.specs.PartialValues.{PartExpresses}
use Rattle.cedar_restricted.specs.Views.{restricted_tree}
use Rattle.cedar_restricted.specs.declared.restricted.RestrictedExpr.{RestrictedExpr}
use Rattle.cedar_restricted.specs.declared.conversions.PartialValueToRestrictedExprError.{PartialValueToRestrictedExprError}
use Rattle.cedar_restricted.specs.declared.conversions.PartialValueToRestrictedExprError.TheVariants.{NontrivialResidual, Memory}

-- what writes the value or is the residual; refused with a residual that isn't restricted, and want of memory says nothing
abbrev pub MakesRestricted : Either Value Tree → Result RestrictedExpr PartialValueToRestrictedExprError → Type 0
MakesRestricted p (Ok r) = PartExpresses p (restricted_tree r)
MakesRestricted p (Err (NontrivialResidual e)) = (p ≡ Right (bare e)) × (is_restricted (bare e) ≡ false)
MakesRestricted p (Err (Memory e)) = ⊤
