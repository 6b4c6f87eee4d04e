-- A residual is no value.
use Rattle.std.proofs.Common.{◌≡◌, ap}
use Rattle.either.specs.declared.Either.TheVariants.{Right}
use Rattle.cedar_language.specs.Tree.{Tree}
use Rattle.cedar_language.specs.Value.{NonValue}
use Rattle.cedar_trees.specs.Bare.{bare}
use Rattle.cedar_restricted.specs.PartialValues.{partial_of}
use Rattle.cedar_operators.proofs.Passing.{fails_as}
use Rattle.cedar_operators.proofs.tags.told.Goals as goal

pub returns-in_ok-still_unknown-in-Residual : goal.returns-in_ok-still_unknown-in-Residual
returns-in_ok-still_unknown-in-Residual c =
    fails_as (λ k. (t : Tree) × (partial_of c.args.found.now ≡ Right t)) c.in_ok-still_unknown-in-Residual.field-0 NonValue c.in_ok-still_unknown-in-Residual.ensures.kind (bare c.in-Residual.residual, ap partial_of c.in-Residual.is)
