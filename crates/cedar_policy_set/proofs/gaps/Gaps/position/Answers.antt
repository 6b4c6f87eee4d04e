-- Those before a place are those that are below it (Closing).
use Rattle.std.proofs.Common.{arith}
use Rattle.cedar_policy_set.proofs.Closing.{counted_at, fewer_below}
use Rattle.cedar_policy_set.proofs.gaps.Gaps.position.Goals as goal

pub overflow_sub-result : goal.overflow_sub-result
overflow_sub-result c =
    let gs = c.args.self.now.taken.items in
    let count = counted_at gs c.args.place c.before-2.result c.before-2.ensures in
    let fewer = fewer_below gs c.args.self.now.once c.args.place in
    omega arith

pub returns : goal.returns
returns c = let count = counted_at c.args.self.now.taken.items c.args.place c.before-2.result c.before-2.ensures in omega arith
