-- An id stands where the entry stands that has it.
use Rattle.std.proofs.Common.{ap, ◌∙◌}
use Rattle.std.specs.Prelude.{position}
use Rattle.std.specs.Map.{keys_of}
use Rattle.cedar_language.specs.Order.{same_text}
use Rattle.cedar_policy_set.proofs.Few.{by_ids}
use Rattle.cedar_policy_set.proofs.policy_map.PolicyMap.get_index_of.Goals as goal

pub returns-in-None : goal.returns-in-None
returns-in-None g c =
    let test = same_text c.args.id.now in
    c.position_among.ensures ∙ by_ids test c.deref.result.now ∙ ap (λ es. position test (keys_of es)) (c.deref.ensures.value ∙ c.self.view_is)
