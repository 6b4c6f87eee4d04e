-- Each that was passed is below the next.
use Rattle.std.proofs.Common.{Less, ◌≡◌}
use Rattle.std.specs.List.{AllAdjacentBelow}
use Rattle.cedar_language.specs.Order.{value_cmp}
use Rattle.cedar_values.proofs.values.sets.is_rising.Given as goal

abbrev pub invariant-loop-at : goal.invariant-loop-at
invariant-loop-at l = AllAdjacentBelow (λ v w. value_cmp v w ≡ Less) l.values l.at
