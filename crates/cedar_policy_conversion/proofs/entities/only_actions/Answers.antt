-- All are actions exactly where those that are none are an empty list.
use Rattle.std.proofs.Common.{◌≡◌, ◌<◌, [], length, sym, ap, ◌∙◌}
use Rattle.std.specs.Prelude.{◌==◌}
use Rattle.cedar_policy_parts.specs.Actions.{held_uids}
use Rattle.cedar_conversion.proofs.Steps.{none_more, some_more}
use Rattle.cedar_policy_conversion.proofs.Finding.{nothing}
use Rattle.cedar_policy_conversion.proofs.Acting.{all_actions, held_other}
use Rattle.cedar_policy_conversion.proofs.entities.only_actions.Goals as goal

pub returns-then-is_empty-clause-actions : goal.returns-then-is_empty-clause-actions
returns-then-is_empty-clause-actions g c =
    let v = c.in_ok-others.others in
    let us = c.args.uids.items in
    let none : v.items ≡ [] = none_more v.items (ap (λ n. n == 0) (sym v.ok.0) ∙ sym c.is_empty.ensures ∙ c.if-is_empty.true) in
    all_actions us (sym c.in_ok-others.ensures ∙ ap held_uids none)

pub returns-clause-actions : goal.returns-clause-actions
returns-clause-actions g c =
    let v = c.in_ok-others.others in
    let us = c.args.uids.items in
    let some : 0 < length v.items = some_more v.items (ap (λ n. n == 0) (sym v.ok.0) ∙ sym c.is_empty.ensures ∙ c.if-is_empty.false) in
    nothing c.no_actions.result _ c.no_actions.ensures.fault (held_other v.items us c.in_ok-others.ensures some)
