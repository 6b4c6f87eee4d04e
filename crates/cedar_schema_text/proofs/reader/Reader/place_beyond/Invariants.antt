use Rattle.std.proofs.Common.{◌-◌, length}
use Rattle.cedar_schema_text.specs.Gives.{left}
use Rattle.cedar_schema_text.proofs.Nested.{Gone}
use Rattle.cedar_schema_text.proofs.reader.Reader.place_beyond.Given as goal

abbrev pub invariant-tokens : goal.invariant-tokens
invariant-tokens l = Gone l.limit (left l.self 0) (left l.self l.at) l.count

abbrev pub decreases-tokens : goal.decreases-tokens
decreases-tokens l = length l.self.tokens.items - l.at
