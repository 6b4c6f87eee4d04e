-- Where no policy is open, one list is both.
use Rattle.std.proofs.Common.{rules, ◌≡◌, sym, ap, ◌∙◌}
use Rattle.cedar_language.specs.Answering.{in_must, ids_with}
use Rattle.cedar_world.specs.Answer.{ids_of}
use Rattle.cedar_evaluator.specs.Holding.{holding_in}
use Rattle.cedar_evaluator.specs.Responses.{judged_held}
use Rattle.cedar_asking.proofs.SameReasons.{none_seen, same_reasons}
use Rattle.cedar_asking.proofs.answering.reasons.Goals as goal

pub returns-then-is_empty-2-clause-may : goal.returns-then-is_empty-2-clause-may
returns-then-is_empty-2-clause-may c =
    let r = c.args.response.now in
    let h = holding_in r in
    let must : c.in_ok-may.may ≡ ids_of (ids_with (in_must (judged_held h)) (judged_held h)) = search rules in
    let no_permit = none_seen _ r.residual_permits (c.is_empty.ensures.0 c.if-is_empty.true) in
    let no_forbid = none_seen _ r.residual_forbids (c.is_empty-then-is_empty.ensures.0 c.if-is_empty-2.true) in
    must ∙ ap ids_of (sym (same_reasons h no_permit no_forbid))
