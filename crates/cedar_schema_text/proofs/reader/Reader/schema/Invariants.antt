use Rattle.std.proofs.Common.{map, ◌-◌, length}
use Rattle.cedar_schema_grammar.specs.Reading.{schema_at}
use Rattle.cedar_schema_syntax.specs.View.{namespace_view}
use Rattle.cedar_schema_text.specs.Gives.{left, bound}
use Rattle.cedar_schema_text.proofs.BlockLoops.{Blocks}
use Rattle.cedar_schema_text.proofs.reader.Reader.schema.Given as goal

abbrev pub invariant-all : goal.invariant-all
invariant-all l = Blocks (bound l.self) (map namespace_view l.namespaces.items) (left l.self l.at) (schema_at (bound l.self) (bound l.self) (left l.self 0))

abbrev pub decreases-all : goal.decreases-all
decreases-all l = length l.self.tokens.items - l.at
