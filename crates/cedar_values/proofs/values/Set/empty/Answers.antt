-- A list without members rises.
use Rattle.std.specs.List.Sorted.{IsStrictlySortedBy}
use Rattle.cedar_values.proofs.values.Set.empty.Goals as goal

pub of_rising-requires : goal.of_rising-requires
unfolding IsStrictlySortedBy
of_rising-requires c = rw c.new.ensures.items tt
