use Rattle.std.proofs.Common.{◌≡◌, drop}
use Rattle.cedar_language.specs.Order.{same_name}
use Rattle.cedar_conformance.proofs.names.are_words.Given as goal

abbrev pub invariant-loop-at : goal.invariant-loop-at
invariant-loop-at l = same_name (drop l.at l.ids) (drop l.at l.words) ≡ same_name l.ids l.words
