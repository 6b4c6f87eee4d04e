use Rattle.std.proofs.Common.{◌≡◌, drop}
use Rattle.cedar_language.specs.Order.{same_text}
use Rattle.cedar_schema_text.proofs.texts.is_written.Given as goal

abbrev pub invariant-loop-at : goal.invariant-loop-at
invariant-loop-at l = same_text l.bytes l.expected ≡ same_text (drop l.at l.bytes) (drop l.at l.expected)
