use Rattle.cedar_entities.specs.Kept.{Lookup, in_map}
use Rattle.cedar_entities.specs.Beside.{IsSameBeside, AreSaved, among_saved}
use Rattle.cedar_entities.proofs.Beside.{IsLeftToPutBack}
use Rattle.cedar_entities.proofs.taking_back.put_all_back.Given as goal

abbrev pub invariant-loop-uid : goal.invariant-loop-uid
invariant-loop-uid l =
    (before : Lookup) → AreSaved before l.fn.all.items → IsSameBeside (among_saved l.fn.all.items) before (in_map l.fn.map) → IsLeftToPutBack before (in_map l.map) l.uid-iterator.rest.items
