use Rattle.std.proofs.Common.{map, ◌-◌, ◌≤◌, length}
use Rattle.cedar_schema_grammar.specs.Tokens.{Comma, mark, eat}
use Rattle.cedar_schema_grammar.specs.Reading.{id_read, several_at}
use Rattle.cedar_schema_syntax.specs.View.{name_view}
use Rattle.cedar_schema_text.specs.Gives.{left, bound}
use Rattle.cedar_schema_text.proofs.Loops.{Chain}
use Rattle.cedar_schema_text.proofs.reader.Reader.ids.Given as goal

abbrev pub invariant-names : goal.invariant-names
invariant-names l = record {
  names : Chain (eat (mark Comma)) id_read (map name_view l.names.items) (left l.self l.at) (several_at id_read (bound l.self) (left l.self l.fn.at));
  onward : l.fn.at ≤ l.at;
}

abbrev pub decreases-names : goal.decreases-names
decreases-names l = length l.self.tokens.items - l.at
