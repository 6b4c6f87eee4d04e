-- Nothing stands under an id that isn't among the ids.
use Rattle.std.proofs.Common.{ap, sym, ◌∙◌}
use Rattle.std.specs.Map.{lookup}
use Rattle.std.specs.Set.{is_member}
use Rattle.std.proofs.lemmas.Map.Made.{is_some-lookup}
use Rattle.cedar_language.specs.Order.{same_text}
use Rattle.cedar_policy_set.proofs.Finding.{none_from}
use Rattle.cedar_evaluator.proofs.reasons.Reasons.insert.Goals as goal

pub push-requires : goal.push-requires
push-requires c =
    let test = same_text c.args.id in
    none_from (lookup test c.self.inside.ids) (is_some-lookup test c.self.inside.ids ∙ ap (λ ids. is_member same_text ids c.args.id) c.self.view_is ∙ sym c.contains.ensures ∙ c.if-contains.false)
