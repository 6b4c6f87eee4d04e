use Rattle.std.proofs.Common.{map, ◌-◌, ◌≤◌, length}
use Rattle.cedar_schema_grammar.specs.Tokens.{RightBracket}
use Rattle.cedar_schema_grammar.specs.Reading.{ref_at, items_at}
use Rattle.cedar_schema_syntax.specs.View.{ref_view}
use Rattle.cedar_schema_text.specs.Gives.{left, bound}
use Rattle.cedar_schema_text.proofs.Loops.{Items}
use Rattle.cedar_schema_text.proofs.reader.Reader.action_refs.Given as goal

abbrev pub invariant-items : goal.invariant-items
invariant-items l = record {
  items : Items RightBracket (ref_at (bound l.self)) (map ref_view l.refs.items) (left l.self l.at) (items_at RightBracket (ref_at (bound l.self)) (bound l.self) (left l.self l.fn.at));
  onward : l.fn.at ≤ l.at;
}

abbrev pub decreases-items : goal.decreases-items
decreases-items l = length l.self.tokens.items - l.at
