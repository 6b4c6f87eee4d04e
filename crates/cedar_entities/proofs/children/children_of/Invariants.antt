use Rattle.cedar_entities.specs.Kept.{in_map}
use Rattle.cedar_entities.proofs.Known.{IsIndexing}
use Rattle.cedar_entities.proofs.children.children_of.Given as goal

abbrev pub invariant-loop-uid : goal.invariant-loop-uid
invariant-loop-uid l = IsIndexing (in_map l.map) l.index l.uid-iterator
