use Rattle.std.proofs.Common.{◌≡◌, drop}
use Rattle.cedar_language.specs.Order.{same_text}
use Rattle.cedar_names.proofs.comparing.is_same.Given as goal

abbrev pub invariant-loop-at : goal.invariant-loop-at
invariant-loop-at l = same_text l.bytes l.others ≡ same_text (drop l.at l.bytes) (drop l.at l.others)
