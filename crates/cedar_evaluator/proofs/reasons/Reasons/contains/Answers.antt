-- An id is among the ids where something stands under it.
use Rattle.std.proofs.Common.{ap, ◌∙◌}
use Rattle.std.specs.Set.{is_member}
use Rattle.std.proofs.lemmas.Map.Made.{is_some-lookup}
use Rattle.cedar_language.specs.Order.{same_text}
use Rattle.cedar_evaluator.proofs.reasons.Reasons.contains.Goals as goal

pub returns : goal.returns
returns c = c.contains_key.ensures ∙ is_some-lookup (same_text c.args.id.now) c.self.inside.ids ∙ ap (λ ids. is_member same_text ids c.args.id.now) c.self.view_is
