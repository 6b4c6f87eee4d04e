-- Of the names that the question wants those are left for which nothing is told (Gathered).
use Rattle.std.proofs.Common.{◌∙◌, ◌&&◌, not, is_some, List, ap, map}
use Rattle.std.proofs.lemmas.Result.{IfOk-weaker}
use Rattle.std.specs.FinMap as finite
use Rattle.std.specs.List.{filter, list_any}
use Rattle.cedar_language.specs.Uid.{Text}
use Rattle.cedar_world.specs.Orders.{text_eq}
use Rattle.cedar_telling.specs.Tells.{told_in}
use Rattle.cedar_telling.proofs.Gathered.{untold_among}
use Rattle.cedar_telling.proofs.asked_names.untold_names.Goals as goal

pub returns : goal.returns
returns c = IfOk-weaker c.without_told.result _ _ (λ left is q asks n.
    let told = told_in c.args.told.now.entries in
    let names : List Text = map (λ n. n.now) c.in_ok-names.names.items in
    ap (λ (ns : List Text). list_any (text_eq n) ns) (is ∙ ap (λ (ns : List Text). filter (λ m. not (is_some (finite.get told m))) ns) (ap (map (λ n. n.now)) c.as_slice.ensures.value))
    ∙ untold_among told names n
    ∙ ap (λ b. not (is_some (finite.get told n)) && b) (c.in_ok-names.ensures q asks n)) c.without_told.ensures
