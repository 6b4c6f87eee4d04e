use Rattle.std.proofs.Common.{drop, map}
use Rattle.std.specs.Set.{is_member}
use Rattle.std.specs.Map.Iter.{deref}
use Rattle.cedar_closure.specs.Sources.{IsSeen}
use Rattle.cedar_closure.proofs.Leading.{FindsBut}
use Rattle.cedar_closure.proofs.sources.Found.add_targets.Given as goal

-- the targets that are left may be missing
abbrev pub invariant-loop-target : goal.invariant-loop-target
invariant-loop-target g l = record {
  seen : IsSeen g.K.PartialEq.eq g.K.Ord.cmp (map deref l.self.keys.items) l.self.seen;
  finds : FindsBut g.K.PartialEq.eq (is_member g.K.PartialEq.eq l.targets) (drop l.target-index l.targets) (map deref l.fn.self.keys.items) (map deref l.self.keys.items);
}
