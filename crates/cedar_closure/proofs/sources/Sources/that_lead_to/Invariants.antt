use Rattle.std.proofs.Common.{◌-◌, ◌≤◌, map}
use Rattle.std.specs.Map.Iter.{deref}
use Rattle.cedar_closure.specs.Sources.{has_source, IsSeen}
use Rattle.cedar_closure.proofs.Leading.{IsLeading}
use Rattle.cedar_closure.proofs.sources.Sources.that_lead_to.Given as goal

abbrev pub invariant-loop-looked : goal.invariant-loop-looked
invariant-loop-looked g l = record {
  seen : IsSeen g.K.PartialEq.eq g.K.Ord.cmp (map deref l.found.keys.items) l.found.seen;
  leading : IsLeading g.K.PartialEq.eq (has_source g.K.Ord.cmp l.self) l.targets l.most (map deref l.found.keys.items) l.looked;
  short : l.looked ≤ l.most;
}

abbrev pub decreases-loop-looked : goal.decreases-loop-looked
decreases-loop-looked g l = l.most - l.looked
