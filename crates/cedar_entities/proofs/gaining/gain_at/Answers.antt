-- What is lacking comes in, and is told before (Gained).
use Rattle.std.proofs.lemmas.Result.{on_ok_weaker}
use Rattle.cedar_entities.specs.Kept.{in_map}
use Rattle.cedar_entities.proofs.Gained.{gains_here, gained_grows, grown}
use Rattle.cedar_entities.proofs.gaining.gain_at.Goals as goal

pub returns-clause-gains : goal.returns-clause-gains
returns-clause-gains c =
    on_ok_weaker c.add_edges_at.result
    (gains_here (in_map c.args.map.now) (in_map c.add_edges_at.new.self) c.args.at.now c.into_vec.result.items c.in_ok-lacking.lacking
    c.into_vec.ensures.listed c.add_edges_at.ensures.same
    c.args.from.now c.args.more.now c.in_ok-lacking.ensures)
    c.add_edges_at.ensures.added

pub returns-clause-gained : goal.returns-clause-gained
returns-clause-gained c = λ before g.
    let now = in_map c.args.map.now in
    let next = in_map c.add_edges_at.new.self in
    let at = c.args.at.now in
    let vs = c.into_vec.result.items in
    let us = c.in_ok-lacking.lacking in
    let same = c.add_edges_at.ensures.same in
    gained_grows now next at vs us c.into_vec.ensures.listed same c.args.from.now c.args.more.now c.in_ok-lacking.ensures before c.args.added.now.items
    c.push.new.self.items c.in_ok-key.key c.in_ok-told.told
    c.in_ok-push.ensures.items c.in_ok-key.ensures c.in_ok-told.ensures
    (grown now next at vs us c.into_vec.ensures.listed same c.add_edges_at.result c.add_edges_at.ensures.added c.add_edges_at.ensures.left) g
