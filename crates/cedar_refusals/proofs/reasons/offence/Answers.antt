-- The one fault is the part.
use Rattle.std.proofs.Common.{◌≡◌, ◌∷◌, []}
use Rattle.std.proofs.lemmas.Result.{IfOk-weaker}
use Rattle.cedar_refusals.specs.Reasons.{IsOne}
use Rattle.cedar_refusals.proofs.reasons.offence.Goals as goal

pub returns-in_ok-message-in-InvalidRestrictedExpression : goal.returns-in_ok-message-in-InvalidRestrictedExpression
returns-in_ok-message-in-InvalidRestrictedExpression c =
    rw c.in-InvalidRestrictedExpression.is
    (IfOk-weaker c.one.result (λ faults. faults.items ≡ c.of_part.result ∷ []) (λ faults. IsOne faults.items) (λ faults is. (c.of_part.result, is)) c.one.ensures)
