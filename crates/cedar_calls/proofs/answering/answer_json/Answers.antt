-- What isn't read is said by no text.
use Rattle.std.proofs.Common.{refl, sym, subst}
use Rattle.cedar_json_commands.proofs.Bodies.{nothing_unparsed}
use Rattle.cedar_calls.specs.Steps.{IsUnanswered}
use Rattle.cedar_calls.proofs.Steps.{unread_step}
use Rattle.cedar_calls.proofs.answering.answer_json.Goals as goal

pub returns-clause-step : goal.returns-clause-step
returns-clause-step g c =
    let v = c.args.verb in
    let json = c.args.json.now in
    let e = c.in-Err.unread in
    (subst (λ why. IsUnanswered v json why) (sym c.of.ensures) (unread_step v json e (nothing_unparsed v json e c.in-Err.ensures.unread)), refl)
