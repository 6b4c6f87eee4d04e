-- What the group has at the id.
use Rattle.std.proofs.Common.{◌∙◌, ap}
use Rattle.cedar_language.specs.Tree.{Tree}
use Rattle.cedar_policy_parts.specs.Effects.{effect_of}
use Rattle.cedar_evaluator.specs.Given.{Noted}
use Rattle.cedar_evaluator.specs.Residuals.{residual_policy, left_satisfied}
use Rattle.cedar_evaluator.proofs.Sought.{none_found, one_found}
use Rattle.cedar_evaluator.proofs.readers.satisfied_at.Goals as goal

pub returns-in-None : goal.returns-in-None
returns-in-None c =
    let id = c.args.id.now in
    none_found id (λ (v : Noted). (left_satisfied (effect_of c.args.effect) (id, v)).1) c.args.group.now c.in-None.ensures

pub returns-in_ok-policy_of-in-Some : goal.returns-in_ok-policy_of-in-Some
returns-in_ok-policy_of-in-Some c =
    let id = c.args.id.now in
    one_found id (λ (v : Noted). (left_satisfied (effect_of c.args.effect) (id, v)).1) c.args.group.now c.in-Some.annotations.now c.in_ok-policy_of-in-Some.field-0 c.in-Some.ensures
    (c.in_ok-policy_of-in-Some.ensures ∙ ap (λ (t : Tree). residual_policy (effect_of c.args.effect) id t c.in-Some.annotations.now.value) c.in_ok-clause-in-Some.ensures)
