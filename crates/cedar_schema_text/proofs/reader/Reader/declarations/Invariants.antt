use Rattle.std.proofs.Common.{map, ◌-◌, ◌≤◌, length}
use Rattle.cedar_schema_grammar.specs.Reading.{declarations_at}
use Rattle.cedar_schema_syntax.specs.View.{declaration_view}
use Rattle.cedar_schema_text.specs.Gives.{left, bound}
use Rattle.cedar_schema_text.proofs.BlockLoops.{Declared}
use Rattle.cedar_schema_text.proofs.reader.Reader.declarations.Given as goal

abbrev pub invariant-declarations : goal.invariant-declarations
invariant-declarations l = record {
  declarations : Declared (bound l.self) (map declaration_view l.declarations.items) (left l.self l.at) (declarations_at (bound l.self) (bound l.self) (left l.self l.fn.at));
  onward : l.fn.at ≤ l.at;
}

abbrev pub decreases-declarations : goal.decreases-declarations
decreases-declarations l = length l.self.tokens.items - l.at
