use Rattle.std.proofs.Common.{◌≡◌, ◌+◌, ◌-◌, length}
use Rattle.cedar_closure.specs.Numbers.{IsSet}
use Rattle.cedar_closure.proofs.WholeRows.{IsOnTheWay}
use Rattle.cedar_closure.proofs.reaching.Search.find_reached.Given as goal

abbrev pub invariant-loop-via : goal.invariant-loop-via
invariant-loop-via l = record {
  set : IsSet l.self.found;
  bound : length l.self.found.is_member.items ≡ length l.rows.edges.now;
  way : IsOnTheWay l.rows.edges.now l.from l.self;
}

abbrev pub decreases-loop-via : goal.decreases-loop-via
decreases-loop-via l = (length l.rows.edges.now - length l.self.found.members.items) + length l.self.pending.items
