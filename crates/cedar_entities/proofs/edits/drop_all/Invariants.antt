use Rattle.cedar_entities.specs.Kept.{in_map}
use Rattle.cedar_entities.proofs.Removing.{IsDropping}
use Rattle.cedar_entities.proofs.edits.drop_all.Given as goal

abbrev pub invariant-loop-uid : goal.invariant-loop-uid
invariant-loop-uid l = IsDropping (in_map l.fn.map) (in_map l.map) l.uids.keys l.uid-iterator
