use Rattle.std.proofs.Common.{◌-◌, ◌≤◌, length}
use Rattle.cedar_schema_grammar.specs.Reading.{annotations_at}
use Rattle.cedar_schema_text.specs.Gives.{left, bound}
use Rattle.cedar_schema_text.proofs.Keys.{KeysSoFar}
use Rattle.cedar_schema_text.proofs.reader.Reader.annotations.Given as goal

abbrev pub invariant-keys : goal.invariant-keys
invariant-keys l = record {
  keys : KeysSoFar l.keys (left l.self l.at) (annotations_at (bound l.self) (left l.self l.fn.at));
  onward : l.fn.at ≤ l.at;
}

abbrev pub decreases-keys : goal.decreases-keys
decreases-keys l = length l.self.tokens.items - l.at
