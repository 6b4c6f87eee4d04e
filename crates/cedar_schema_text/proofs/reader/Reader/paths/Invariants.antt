use Rattle.std.proofs.Common.{map, ◌-◌, ◌≤◌, length}
use Rattle.cedar_schema_grammar.specs.Tokens.{RightBracket}
use Rattle.cedar_schema_grammar.specs.Reading.{path_at, items_at}
use Rattle.cedar_schema_syntax.specs.View.{path_view}
use Rattle.cedar_schema_text.specs.Gives.{left, bound}
use Rattle.cedar_schema_text.proofs.Loops.{Items}
use Rattle.cedar_schema_text.proofs.reader.Reader.paths.Given as goal

abbrev pub invariant-items : goal.invariant-items
invariant-items l = record {
  items : Items RightBracket (path_at (bound l.self)) (map path_view l.paths.items) (left l.self l.at) (items_at RightBracket (path_at (bound l.self)) (bound l.self) (left l.self l.fn.at));
  onward : l.fn.at ≤ l.at;
}

abbrev pub decreases-items : goal.decreases-items
decreases-items l = length l.self.tokens.items - l.at
