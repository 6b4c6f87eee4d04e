-- Rests on how the body was read, and on the edit of the entities that it lists.
use Rattle.std.proofs.lemmas.Result.{err_from_is_err_and}
use Rattle.cedar_restricted.specs.Views.{restricted_tree, borrowed_tree}
use Rattle.cedar_session.specs.Sessions.{setting_of, world_of}
use Rattle.cedar_session.proofs.Texts.{read_tree, serves}
use Rattle.cedar_session.proofs.Edits.{put_unread, put_refused, put_changes_nothing, put_done}
use Rattle.cedar_session.proofs.Kept.{stays}
use Rattle.cedar_session.proofs.session.Session.put.Goals as goal

pub returns-in_err-body-clause-step : goal.returns-in_err-body-clause-step
returns-in_err-body-clause-step g c =
    let by = setting_of c.args.self.now in
    let p = err_from_is_err_and c.from_residual.result c.from_residual.ensures.1 in
    rw (p.1, p.2) (put_unread by (world_of c.args.self.now) c.args.text.now (c.texts_are_one.ensures.bodies by) c.in_err-body.field-0.0 c.in_err-body.ensures.body)

pub returns-in_err-put-clause-step : goal.returns-in_err-put-clause-step
returns-in_err-put-clause-step g c =
    let by = setting_of c.args.self.now in
    let old = world_of c.args.self.now in
    let once = c.texts_are_one.ensures.bodies by in
    let tree = borrowed_tree c.as_borrowed-listed.result in
    let read = read_tree by c.args.text.now (restricted_tree c.in_ok-body.body) tree c.as_borrowed-listed.ensures c.in_ok-body.ensures.body in
    let edited = c.in_err-put.ensures by (serves g.F.ExtensionFunctionObject.answers c.args.self.now.extensions.now c.args.self.now.depth (restricted_tree c.in_ok-body.body) (borrowed_tree c.as_borrowed-listed.result) c.as_borrowed-listed.ensures c.names_are_defined.ensures c.in_ok-body.ensures.calls) in
    let same = put_changes_nothing by old c.args.text.now once tree read.0 read.1 c.as_borrowed-listed.result.restricted c.in_err-put.field-0.0 c.put.new.self edited in
    let p = err_from_is_err_and c.from_residual-in_err-put.result c.from_residual-in_err-put.ensures.1 in
    rw (p.1, p.2) (put_refused by old c.args.text.now once tree read.0 read.1 c.as_borrowed-listed.result.restricted c.in_err-put.field-0.0 c.put.new.self edited same)

pub returns-clause-step : goal.returns-clause-step
returns-clause-step g c =
    let by = setting_of c.args.self.now in
    let tree = borrowed_tree c.as_borrowed-listed.result in
    let read = read_tree by c.args.text.now (restricted_tree c.in_ok-body.body) tree c.as_borrowed-listed.ensures c.in_ok-body.ensures.body in
    rw (c.close.ensures) (put_done by (world_of c.args.self.now) c.args.text.now (c.texts_are_one.ensures.bodies by) tree read.0 read.1 c.as_borrowed-listed.result.restricted c.put.new.self (c.in_ok-put.ensures by (serves g.F.ExtensionFunctionObject.answers c.args.self.now.extensions.now c.args.self.now.depth (restricted_tree c.in_ok-body.body) (borrowed_tree c.as_borrowed-listed.result) c.as_borrowed-listed.ensures c.names_are_defined.ensures c.in_ok-body.ensures.calls)))

pub invariant_of-self-in-Break-branch-2 : goal.invariant_of-self-in-Break-branch-2
invariant_of-self-in-Break-branch-2 g c =
    let by = setting_of c.args.self.now in
    let old = world_of c.args.self.now in
    let once = c.texts_are_one.ensures.bodies by in
    let tree = borrowed_tree c.as_borrowed-listed.result in
    let read = read_tree by c.args.text.now (restricted_tree c.in_ok-body.body) tree c.as_borrowed-listed.ensures c.in_ok-body.ensures.body in
    let edited = c.in_err-put.ensures by (serves g.F.ExtensionFunctionObject.answers c.args.self.now.extensions.now c.args.self.now.depth (restricted_tree c.in_ok-body.body) (borrowed_tree c.as_borrowed-listed.result) c.as_borrowed-listed.ensures c.names_are_defined.ensures c.in_ok-body.ensures.calls) in
    let same = put_changes_nothing by old c.args.text.now once tree read.0 read.1 c.as_borrowed-listed.result.restricted c.in_err-put.field-0.0 c.put.new.self edited in
    record { called = c.in_ok-body.ensures.called; steady = stays by c.args.self.now.policies c.args.self.now.entities c.put.new.self same c.args.self.now.asked c.args.self.now.steady }
