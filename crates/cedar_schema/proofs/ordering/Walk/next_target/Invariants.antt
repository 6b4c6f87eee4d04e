use Rattle.std.proofs.Common.{◌≡◌, slice_index}
use Rattle.cedar_schema.specs.Walks.{IsWalk}
use Rattle.cedar_schema.proofs.ordering.Walk.next_target.Given as goal

abbrev pub invariant-loop-self : goal.invariant-loop-self
invariant-loop-self l = record {
  walk : IsWalk l.self;
  same : l.self ≡ record l.fn.self { left = l.self.left };
}

abbrev pub decreases-loop-self : goal.decreases-loop-self
decreases-loop-self l = slice_index l.self.left.items l.from
