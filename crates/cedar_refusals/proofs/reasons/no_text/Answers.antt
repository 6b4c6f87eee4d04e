-- The one fault stands at the byte.
use Rattle.std.proofs.Common.{◌≡◌, ◌∷◌, [], ◌∙◌, Some, ap}
use Rattle.std.proofs.lemmas.Result.{IfOk-weaker}
use Rattle.cedar_messages.specs.Faults.{reach, start_of}
use Rattle.cedar_messages.specs.Places.{position_at}
use Rattle.cedar_refusals.specs.Reasons.{ShowsNoText}
use Rattle.cedar_refusals.proofs.reasons.no_text.Goals as goal

pub returns : goal.returns
returns c =
    let fault = c.unmarked.result in
    let place : start_of (reach fault) ≡ Some (position_at c.args.bytes.now c.args.byte) = ap start_of c.unmarked.ensures.place ∙ ap Some c.position_in-place.ensures in
    IfOk-weaker c.one.result (λ faults. faults.items ≡ fault ∷ []) (λ faults. ShowsNoText c.args.bytes.now c.args.byte faults.items) (λ faults is. (fault, is, place)) c.one.ensures
