-- Made anew with what was told, and with the first errors besides.
use Rattle.std.proofs.Common.{◌++◌, ◌∙◌, ap, inr, map}
use Rattle.cedar_evaluator.specs.Holding.{error_seen}
use Rattle.cedar_authoring.proofs.past.Past.retold.Goals as goal

pub returns-in-Ok : goal.returns-in-Ok
returns-in-Ok g c =
    let again = map error_seen c.in-Ok.again.errors.items in
    let errors = c.in_ok-with_errors-in-Ok.ensures.errors ∙ ap (λ l. again ++ map error_seen l) c.as_slice.ensures.value in
    inr (_, _, _, _, _, c.in-Ok.ensures, c.in_ok-with_errors-in-Ok.ensures.groups, errors)
