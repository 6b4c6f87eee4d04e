use Rattle.cedar_entities.specs.Gaining.{HasGained}
use Rattle.cedar_entities.specs.Kept.{in_map, Lookup}
use Rattle.cedar_entities.proofs.gaining.take_back.Given as goal

abbrev pub invariant-loop-at : goal.invariant-loop-at
invariant-loop-at l = (before : Lookup) → HasGained before (in_map l.fn.map) l.fn.added.items → HasGained before (in_map l.map) l.at-iterator.rest.items
