-- Few entries have no places, also without one; and none are left where memory lacks.
use Rattle.std.proofs.Common.{subst, ◌∙◌}
use Rattle.std.specs.Prelude.{IfSome}
use Rattle.std.specs.Map.{keys_of}
use Rattle.cedar_language.specs.Order.{same_text}
use Rattle.cedar_policy_set.specs.Places.{Tells}
use Rattle.cedar_policy_set.proofs.Few.{by_ids, kept_without, kept_lost}
use Rattle.cedar_policy_set.proofs.policy_map.take_place.Goals as goal

pub returns-in-None-clause-position : goal.returns-in-None-clause-position
returns-in-None-clause-position g c = c.position_among.ensures ∙ by_ids (same_text c.args.id.now) c.args.entries.now

pub returns-in-None-clause-kept : goal.returns-in-None-clause-kept
returns-in-None-clause-kept g c =
    let test = same_text c.args.id.now in
    let es = c.args.entries.now in kept_without _ (keys_of es) test c.position_among.result c.in-None.is c.thin_out.ensures.distinct (c.position_among.ensures ∙ by_ids test es)

pub returns-then-is_err-clause-kept : goal.returns-then-is_err-clause-kept
returns-then-is_err-clause-kept g c =
    let ids = keys_of c.args.entries.now in
    let told = subst (λ o. IfSome o (λ p. Tells p ids)) c.in-Some.is c.thin_out.ensures.told in
    kept_lost ids c.args.id.now c.in_ok-position-in-Some.position c.thin_out.ensures.distinct (c.in_ok-position-in-Some.ensures ids told)
