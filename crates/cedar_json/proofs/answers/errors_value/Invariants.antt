use Rattle.std.proofs.Common.{◌≡◌, drop}
use Rattle.json.specs.Value.{items_view}
use Rattle.cedar_json.specs.Answers.{errors_told}
use Rattle.cedar_json.specs.Bodies.{before}
use Rattle.cedar_json.proofs.answers.errors_value.Given as goal

abbrev pub invariant-loop-entry : goal.invariant-loop-entry
invariant-loop-entry l = before (items_view l.items.items) (errors_told (drop l.entry-index l.entries)) ≡ errors_told l.entries
