-- A key that wasn't seen is found (Leading).
use Rattle.std.proofs.Common.{[], ◌∷◌, map, sym, ◌∙◌}
use Rattle.std.specs.Map.Iter.{deref}
use Rattle.cedar_closure.proofs.Leading.{seen_on, union_of_seen, pushed_now}
use Rattle.cedar_closure.proofs.sources.Found.add.Goals as goal

pub returns-then-contains-clause-union : goal.returns-then-contains-clause-union
returns-then-contains-clause-union g c =
    union_of_seen g.met.K.Eq.laws g.met.K.Ord.matches_eq (map deref c.args.self.now.keys.items) c.args.self.now.seen c.args.key (sym c.contains.ensures ∙ c.if-contains.true) c.requires

pub returns-clause-seen : goal.returns-clause-seen
returns-clause-seen g c =
    let old = c.args.self.now.keys.items in
    let new = c.push.new.self.items in
    seen_on g.met.K.Eq.laws g.met.K.Ord.matches_eq (map deref old) (map deref new) c.args.self.now.seen c.insert.new.self c.args.key
    (sym c.contains.ensures ∙ c.if-contains.false) c.in_ok-insert.ensures.updates.0 (pushed_now old new c.args.key c.in_ok-push.ensures.items) c.requires

pub returns-clause-behind : goal.returns-clause-behind
returns-clause-behind g c = (c.args.key.now ∷ [], pushed_now c.args.self.now.keys.items c.push.new.self.items c.args.key c.in_ok-push.ensures.items)
