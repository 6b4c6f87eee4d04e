-- One more policy in the group of its effect.
use Rattle.std.proofs.Common.{sym, ◌∙◌, ap}
use Rattle.std.proofs.lemmas.Result.{on_ok_weaker}
use Rattle.cedar_policy_parts.specs.Effects.{effect_of}
use Rattle.cedar_evaluator.proofs.Adding.{satisfied_permit, satisfied_forbid}
use Rattle.cedar_evaluator.proofs.partial_response.PartialResponse.keep_satisfied.Goals as goal

pub returns-in-Permit-clause-held : goal.returns-in-Permit-clause-held
returns-in-Permit-clause-held c = λ with_false.
    let p = c.args.policy.now in
    let effect = sym (ap effect_of c.in-Permit.is) ∙ c.effect.ensures in
    on_ok_weaker c.push.result
    (satisfied_permit with_false c.args.self.now p (c.in_ok-id.id, c.in_ok-id.annotations) c.in_ok-id.ensures effect c.push.new.self)
    c.push.ensures.pushed

pub returns-in-Forbid-clause-held : goal.returns-in-Forbid-clause-held
returns-in-Forbid-clause-held c = λ with_false.
    let p = c.args.policy.now in
    let effect = sym (ap effect_of c.in-Forbid.is) ∙ c.effect.ensures in
    on_ok_weaker c.push-in-Forbid.result
    (satisfied_forbid with_false c.args.self.now p (c.in_ok-id.id, c.in_ok-id.annotations) c.in_ok-id.ensures effect c.push-in-Forbid.new.self)
    c.push-in-Forbid.ensures.pushed
