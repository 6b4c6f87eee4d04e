-- The words passed are identifiers.
use Rattle.std.proofs.Common.{◌≡◌, [], drop}
use Rattle.cedar_validator.proofs.Naming.{with_left}
use Rattle.cedar_validator.proofs.names.identifiers.Given as goal

abbrev pub invariant-loop-word : goal.invariant-loop-word
invariant-loop-word l = with_left l.ids.items (drop l.word-index l.words) ≡ with_left [] l.words
