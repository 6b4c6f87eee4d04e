-- The last number of the path is done, and stands behind the order.
use Rattle.std.proofs.Common.{◌≡◌, ◌-◌, ◌+◌, ◌<◌, length, slice_index, subst, sym, refl, arith}
use Rattle.cedar_schema.proofs.Walking.{left_behind}
use Rattle.cedar_schema.proofs.ordering.Walk.leave.Goals as goal

pub returns-clause-walk : goal.returns-clause-walk
returns-clause-walk c =
    let w = c.args.self.now in
    let full : c.args.self.now.path.len ≡ length c.args.self.now.path.items = c.args.self.now.path.ok.0 in
    let some : 0 < length c.args.self.now.path.items = c.requires.last in
    left_behind w c.requires.walk c.args.number c.requires.below (w.path.len - 1) (omega arith) (subst (λ n. slice_index w.path.items (n - 1) ≡ c.args.number) (sym full) c.requires.number) c.requires.followed _ c.pop.new.self c.push.new.self
    refl c.pop.ensures.rest c.in_ok-push.ensures.items
