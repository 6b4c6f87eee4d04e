-- The response holds what was found of each policy of the set.
use Rattle.std.proofs.Common.{ap, sym, ◌∙◌}
use Rattle.std.proofs.lemmas.Map.Made.{IsDistinct-keys_filter}
use Rattle.cedar_language.specs.Order.{same_text}
use Rattle.cedar_policy_set.specs.Entries.{is_policy}
use Rattle.cedar_requests.specs.Holding.{request_parts}
use Rattle.cedar_evaluator.proofs.Keeping.{responds}
use Rattle.cedar_evaluator.proofs.authorizer.responded.Goals as goal

pub returns : goal.returns
returns g c = λ i store table depth is by.
    let es = c.args.policies.now in
    let apart = IsDistinct-keys_filter same_text (λ e. is_policy e.1) es c.len-count.ensures.whole.distinct in
    let keeps = c.in_ok-gather.ensures.keeps i store table depth by (c.new-scopes.ensures i store table depth by) in
    responds c.args.with_false i store table depth es c.gather.new.self keeps apart
    (ap (λ r. request_parts r.value) c.gather.ensures.same ∙ c.empty-response.ensures.asked ∙ ap request_parts c.in_ok-new.ensures.ok ∙ sym is)

pub gather-requires-clause-apart : goal.gather-requires-clause-apart
gather-requires-clause-apart g c = IsDistinct-keys_filter same_text (λ e. is_policy e.1) c.args.policies.now c.len-count.ensures.whole.distinct
