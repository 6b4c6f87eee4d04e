use Rattle.std.proofs.Common.{map, ◌-◌, ◌≤◌, length}
use Rattle.std.specs.Rc.{rc_str_bytes}
use Rattle.cedar_schema_grammar.specs.Tokens.{RightBracket}
use Rattle.cedar_schema_grammar.specs.Reading.{string_read, items_at}
use Rattle.cedar_schema_text.specs.Gives.{left, bound}
use Rattle.cedar_schema_text.proofs.Loops.{Items}
use Rattle.cedar_schema_text.proofs.reader.Reader.strings.Given as goal

abbrev pub invariant-items : goal.invariant-items
invariant-items l = record {
  items : Items RightBracket string_read (map rc_str_bytes l.strings.items) (left l.self l.at) (items_at RightBracket string_read (bound l.self) (left l.self l.fn.at));
  onward : l.fn.at ≤ l.at;
}

abbrev pub decreases-items : goal.decreases-items
decreases-items l = length l.self.tokens.items - l.at
