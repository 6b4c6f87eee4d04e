-- One more policy among those that aren't satisfied, if such are kept.
use Rattle.std.proofs.Common.{sym, ◌∙◌, ap}
use Rattle.std.proofs.lemmas.Result.{on_ok_weaker}
use Rattle.cedar_policy_parts.specs.Effects.{effect_of}
use Rattle.cedar_evaluator.specs.Grouping.{kept_as}
use Rattle.cedar_evaluator.specs.Holding.{has_erred}
use Rattle.cedar_evaluator.proofs.Adding.{none_false, false_permit, false_forbid}
use Rattle.cedar_evaluator.proofs.partial_response.PartialResponse.keep_false.Goals as goal

pub returns-then-not-with_false-clause-held : goal.returns-then-not-with_false-clause-held
returns-then-not-with_false-clause-held c = λ found fits.
    none_false c.args.with_false (cc) (kept_as c.args.policy.now found) (has_erred c.args.state) fits c.args.self.now

pub returns-in-Permit-clause-held : goal.returns-in-Permit-clause-held
returns-in-Permit-clause-held c = λ found fits.
    let p = c.args.policy.now in
    let state = c.args.state in
    let effect = sym (ap effect_of c.in-Permit.is) ∙ c.effect.ensures in
    on_ok_weaker c.push.result
    (false_permit c.args.with_false c.args.self.now p (c.in_ok-id.id, c.in_ok-id.annotations) c.in_ok-id.ensures (cc)
    state found fits effect c.push.new.self)
    c.push.ensures.pushed

pub returns-in-Forbid-clause-held : goal.returns-in-Forbid-clause-held
returns-in-Forbid-clause-held c = λ found fits.
    let p = c.args.policy.now in
    let state = c.args.state in
    let effect = sym (ap effect_of c.in-Forbid.is) ∙ c.effect.ensures in
    on_ok_weaker c.push-in-Forbid.result
    (false_forbid c.args.with_false c.args.self.now p (c.in_ok-id.id, c.in_ok-id.annotations) c.in_ok-id.ensures (cc)
    state found fits effect c.push-in-Forbid.new.self)
    c.push-in-Forbid.ensures.pushed
