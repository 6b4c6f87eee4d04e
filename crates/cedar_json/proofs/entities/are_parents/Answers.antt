use Rattle.std.proofs.Common.{is_some, ap, sym, ◌∙◌}
use Rattle.json.specs.Value.{value_view}
use Rattle.json.proofs.Trees.{view-Array}
use Rattle.cedar_json.specs.Entities.{parents_in}
use Rattle.cedar_json.proofs.entities.are_parents.Goals as goal

pub returns-in-Array : goal.returns-in-Array
returns-in-Array c = c.are_entities.ensures ∙ ap (λ j. is_some (parents_in j)) (sym (ap value_view c.in-Array.is ∙ view-Array c.in-Array.items))
