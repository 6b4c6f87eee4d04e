use Rattle.std.proofs.Common.{◌≡◌, drop}
use Rattle.json.specs.Value.{items_view}
use Rattle.cedar_json.specs.Answers.{strings}
use Rattle.cedar_json.specs.Bodies.{before}
use Rattle.cedar_json.proofs.answers.ids_value.Given as goal

abbrev pub invariant-loop-id : goal.invariant-loop-id
invariant-loop-id l = before (items_view l.items.items) (strings (drop l.id-index l.ids)) ≡ strings l.ids
