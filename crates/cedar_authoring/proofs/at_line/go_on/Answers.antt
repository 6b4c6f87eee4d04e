-- What the session answers, or why it stops.
use Rattle.std.proofs.Common.{◌≡◌, Result, inl, inr, ap, subst, string_bytes, arith}
use Rattle.cedar_replies.specs.Refusals.{refusal_of}
use Rattle.cedar_replies.specs.Replies.{reply_of}
use Rattle.cedar_replies.specs.declared.answer.Reply.{Reply}
use Rattle.cedar_replies.specs.declared.refusal.Refusal.{Refusal}
use Rattle.cedar_session.specs.Sessions.{setting_of, world_of}
use Rattle.cedar_world.specs.Commands.{Refused}
use Rattle.cedar_world.specs.Step.{Step as Steps}
use Rattle.cedar_authoring.specs.Scripts.{IsFed}
use Rattle.cedar_authoring.proofs.at_line.go_on.Goals as goal

pub returns-in-Ok-clause-on : goal.returns-in-Ok-clause-on
returns-in-Ok-clause-on g c = (reply_of c.apply-outcome.result, rw (c.of.ensures.verb, c.of.ensures.text, c.as_str.ensures.value) at c.apply-outcome.ensures.step)

pub returns-then-expected-clause-on : goal.returns-then-expected-clause-on
returns-then-expected-clause-on g c =
    (reply_of c.apply-outcome.result, rw (c.of.ensures.verb, c.of.ensures.text, c.as_str.ensures.value) at c.apply-outcome.ensures.step)

pub returns-clause-stopped : goal.returns-clause-stopped
returns-clause-stopped g c =
    let by = setting_of c.args.session.now in
    let old = world_of c.args.session.now in
    let new = world_of c.apply-outcome.new.self in
    let s = c.args.step.now in
    let r = refusal_of c.in-Err.refusal in
    let P : Result Reply Refusal → Type 0 = λ o. Steps by old s.verb (string_bytes s.body) (reply_of o) new in
    let Q : Result Reply Refusal → Type 0 = λ o. IsFed (reply_of o) in
    let refused = subst P c.in-Err.is (rw (c.of.ensures.verb, c.of.ensures.text, c.as_str.ensures.value) at c.apply-outcome.ensures.step) in
    let fed = subst Q c.in-Err.is c.in_ok-expected.ensures.fed in
    inr (new, r, (λ same. fed (ap Refused same)), refused)
