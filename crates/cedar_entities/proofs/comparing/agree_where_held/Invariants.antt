use Rattle.cedar_entities.specs.Kept.{in_map, IsSameAt}
use Rattle.cedar_entities.proofs.Sameness.{IsUnderway}
use Rattle.cedar_entities.proofs.comparing.agree_where_held.Given as goal

abbrev pub invariant-loop-uid : goal.invariant-loop-uid
invariant-loop-uid l = IsUnderway (in_map l.entities) (IsSameAt (in_map l.entities) (in_map l.others)) l.uid-iterator
