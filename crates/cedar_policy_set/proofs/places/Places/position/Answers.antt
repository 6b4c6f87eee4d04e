-- An id stands nowhere, or where its place does.
use Rattle.std.proofs.Common.{ap, Some, ◌∙◌}
use Rattle.cedar_policy_set.proofs.Telling.{told_at}
use Rattle.cedar_policy_set.proofs.places.Places.position.Goals as goal

pub returns-in_err-place : goal.returns-in_err-place
returns-in_err-place c = λ ids told. c.from_residual.ensures ∙ told_at c.args.self.now ids told c.args.id.now _ c.in_err-place.ensures.value

pub returns : goal.returns
returns c = λ ids told. ap Some c.position.ensures ∙ told_at c.args.self.now ids told c.args.id.now _ c.in_ok-place.ensures.value
