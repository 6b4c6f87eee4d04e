-- The one fault is the part's.
use Rattle.std.proofs.Common.{◌≡◌, ◌∷◌, [], true, inr, rules}
use Rattle.std.proofs.lemmas.Result.{IfOk-weaker}
use Rattle.cedar_replies.specs.Refusals.{refusal_of}
use Rattle.cedar_refusals.specs.Reasons.{ShowsPart}
use Rattle.cedar_refusals.specs.RefusedBodies.{is_for_a_part}
use Rattle.cedar_refusals.proofs.reasons.part_faults.Goals as goal

pub returns-in-Some : goal.returns-in-Some
returns-in-Some g c =
    let part : is_for_a_part (refusal_of c.args.refusal) ≡ true = search rules in
    IfOk-weaker c.one.result (λ faults. faults.items ≡ c.of_part.result ∷ []) (λ faults. ShowsPart (refusal_of c.args.refusal) faults.items)
    (λ faults is. inr (part, (c.of_part.result, is))) c.one.ensures
