use Rattle.std.proofs.Common.{drop}
use Rattle.cedar_entities.specs.Kept.{in_map}
use Rattle.cedar_entities.proofs.Beside.{IsSaving}
use Rattle.cedar_entities.proofs.taking_back.saved.Given as goal

abbrev pub invariant-loop-uid : goal.invariant-loop-uid
invariant-loop-uid l = IsSaving (in_map l.map) l.uids l.all.items (drop l.uid-index l.uids)
