use Rattle.std.proofs.Common.{◌≡◌, drop}
use Rattle.cedar_language.specs.Order.{text_cmp}
use Rattle.cedar_names.proofs.comparing.compare.Given as goal

abbrev pub invariant-loop-at : goal.invariant-loop-at
invariant-loop-at l = text_cmp l.bytes l.others ≡ text_cmp (drop l.at l.bytes) (drop l.at l.others)
