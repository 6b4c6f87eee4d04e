use Rattle.std.proofs.Common.{map, ◌-◌, ◌≤◌, length}
use Rattle.std.specs.Rc.{rc_str_bytes}
use Rattle.cedar_schema_grammar.specs.Reading.{id_read, path_at}
use Rattle.cedar_schema_text.specs.Parts.{eat_separator}
use Rattle.cedar_schema_text.specs.Gives.{left, bound}
use Rattle.cedar_schema_text.proofs.Loops.{Chain}
use Rattle.cedar_schema_text.proofs.reader.Reader.path.Given as goal

abbrev pub invariant-words : goal.invariant-words
invariant-words l = record {
  words : Chain eat_separator id_read (map rc_str_bytes l.words.items) (left l.self l.at) (path_at (bound l.self) (left l.self l.fn.at));
  onward : l.fn.at ≤ l.at;
}

abbrev pub decreases-words : goal.decreases-words
decreases-words l = length l.self.tokens.items - l.at
