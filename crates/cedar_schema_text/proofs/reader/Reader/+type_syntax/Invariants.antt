-- A type within brackets begins further on; attributes so far stand before those of the rest.
use Rattle.std.proofs.Common.{map, ◌+◌, ◌*◌, ◌-◌, ◌≤◌, length}
use Rattle.cedar_schema_grammar.specs.Reading.{attributes_at}
use Rattle.cedar_schema_syntax.specs.View.{attribute_view}
use Rattle.cedar_schema_text.specs.Gives.{left, bound}
use Rattle.cedar_schema_text.proofs.AttributeLoop.{Attributes}
use Rattle.cedar_schema_text.proofs.reader.Reader.+type_syntax.Given as goal

abbrev pub decreases-type_syntax : goal.decreases-type_syntax
decreases-type_syntax l = 4 * (length l.self.now.tokens.items - l.at.now) + 0

abbrev pub decreases-attribute : goal.decreases-attribute
decreases-attribute l = 4 * (length l.self.now.tokens.items - l.at.now) + 1

abbrev pub decreases-attributes : goal.decreases-attributes
decreases-attributes l = 4 * (length l.self.now.tokens.items - l.at.now) + 2

abbrev pub invariant-attributes-attributes : goal.invariant-attributes-attributes
invariant-attributes-attributes l = record {
  attributes : Attributes (length l.self.tokens.items) (map attribute_view l.attributes.items) (left l.self l.at) (attributes_at (bound l.self) (left l.self l.fn.at));
  onward : l.fn.at ≤ l.at;
}

abbrev pub decreases-attributes-attributes : goal.decreases-attributes-attributes
decreases-attributes-attributes l = length l.self.tokens.items - l.at
