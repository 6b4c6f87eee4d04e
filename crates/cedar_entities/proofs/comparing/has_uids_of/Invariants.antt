use Rattle.std.specs.Option.{IsSome}
use Rattle.cedar_entities.specs.Kept.{in_map}
use Rattle.cedar_entities.proofs.Sameness.{IsUnderway}
use Rattle.cedar_entities.proofs.comparing.has_uids_of.Given as goal

abbrev pub invariant-loop-uid : goal.invariant-loop-uid
invariant-loop-uid l = IsUnderway (in_map l.others) (λ uid. IsSome (in_map l.entities uid)) l.uid-iterator
