use Rattle.std.proofs.Common.{◌≡◌, [], ◌∷◌, ◌++◌, ap, ◌∙◌}
use Rattle.json.specs.Json.{object}
use Rattle.json.specs.Value.{members_view}
use Rattle.json.proofs.Trees.{view-Object}
use Rattle.cedar_json.proofs.answers.pair_value.Goals as goal

pub returns : goal.returns
returns c =
    let first = c.args.first in
    let second = c.args.second in
    let one : c.push.new.self.items ≡ first ∷ [] = c.in_ok-push.ensures.items ∙ ap (λ ms. ms ++ first ∷ []) c.new-members.ensures.items in
    let both : c.push-2.new.self.items ≡ first ∷ second ∷ [] = c.in_ok-push-2.ensures.items ∙ ap (λ ms. ms ++ second ∷ []) one in
    view-Object c.push-2.new.self ∙ ap (λ ms. object (members_view ms)) both
