-- One more source is found, and is left no more (Leading).
use Rattle.std.proofs.Common.{map}
use Rattle.std.specs.Map.Iter.{deref}
use Rattle.cedar_closure.proofs.Leading.{finds_on}
use Rattle.cedar_closure.proofs.sources.Found.add_each.Goals as goal

pub loop-source-preserved : goal.loop-source-preserved
loop-source-preserved g c = record {
  seen = c.in_ok-add.ensures.seen;
  finds = finds_on c.loop-source.source-iterator c.next.new.self (map deref c.args.self.now.keys.items) (map deref c.loop-source.self.keys.items) (map deref c.add.new.self.keys.items) c.in-Some.source.now
      c.in-Some.ensures.steps c.in_ok-add.ensures.union c.in_ok-add.ensures.behind c.loop-source.invariant.finds;
}
