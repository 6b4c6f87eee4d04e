use Rattle.cedar_extensions.proofs.Gathered.{IsGathered}
use Rattle.cedar_extensions.proofs.collecting.collect_no_duplicates.Given as goal

abbrev pub invariant-loop-key : goal.invariant-loop-key
invariant-loop-key g l = IsGathered g.K.PartialEq.eq l.yielded l.map
