use Rattle.std.proofs.Common.{map}
use Rattle.std.specs.BTreeSet.{contains}
use Rattle.std.specs.Map.Iter.{deref}
use Rattle.cedar_closure.specs.Sources.{IsSeen}
use Rattle.cedar_closure.proofs.Leading.{FindsBut}
use Rattle.cedar_closure.proofs.sources.Found.add_each.Given as goal

-- the sources that are left may be missing
abbrev pub invariant-loop-source : goal.invariant-loop-source
invariant-loop-source g l = record {
  seen : IsSeen g.K.PartialEq.eq g.K.Ord.cmp (map deref l.self.keys.items) l.self.seen;
  finds : FindsBut g.K.PartialEq.eq (contains g.K.Ord.cmp l.sources) l.source-iterator (map deref l.fn.self.keys.items) (map deref l.self.keys.items);
}
