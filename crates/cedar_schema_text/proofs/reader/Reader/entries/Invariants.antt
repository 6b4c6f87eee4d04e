use Rattle.std.proofs.Common.{map, ◌-◌, ◌≤◌, length}
use Rattle.cedar_schema_grammar.specs.Tokens.{RightBrace}
use Rattle.cedar_schema_grammar.specs.Reading.{entry_at, items_at}
use Rattle.cedar_schema_syntax.specs.View.{entry_view}
use Rattle.cedar_schema_text.specs.Gives.{left, bound}
use Rattle.cedar_schema_text.proofs.Loops.{Items}
use Rattle.cedar_schema_text.proofs.reader.Reader.entries.Given as goal

abbrev pub invariant-items : goal.invariant-items
invariant-items l = record {
  items : Items RightBrace (entry_at (bound l.self)) (map entry_view l.entries.items) (left l.self l.at) (items_at RightBrace (entry_at (bound l.self)) (bound l.self) (left l.self l.fn.at));
  onward : l.fn.at ≤ l.at;
}

abbrev pub decreases-items : goal.decreases-items
decreases-items l = length l.self.tokens.items - l.at
