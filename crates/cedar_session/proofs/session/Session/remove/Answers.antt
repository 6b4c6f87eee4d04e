-- Rests on how the body was read, and on the edit of the entities that it lists.
use Rattle.std.proofs.lemmas.Result.{err_from_is_err_and}
use Rattle.cedar_restricted.specs.Views.{restricted_tree, borrowed_tree}
use Rattle.cedar_session.specs.Sessions.{setting_of, world_of}
use Rattle.cedar_session.proofs.Texts.{read_tree}
use Rattle.cedar_session.proofs.Edits.{remove_unread, remove_refused, remove_changes_nothing, remove_done}
use Rattle.cedar_session.proofs.session.Session.remove.Goals as goal

pub returns-in_err-body-clause-step : goal.returns-in_err-body-clause-step
returns-in_err-body-clause-step g c =
    let by = setting_of c.args.self.now in
    let p = err_from_is_err_and c.from_residual.result c.from_residual.ensures.1 in
    rw (p.1, p.2) (remove_unread by (world_of c.args.self.now) c.args.text.now (c.texts_are_one.ensures.bodies by) c.in_err-body.field-0.0 c.in_err-body.ensures.body)

pub returns-in_err-remove-clause-step : goal.returns-in_err-remove-clause-step
returns-in_err-remove-clause-step g c =
    let by = setting_of c.args.self.now in
    let old = world_of c.args.self.now in
    let once = c.texts_are_one.ensures.bodies by in
    let tree = borrowed_tree c.as_borrowed.result in
    let read = read_tree by c.args.text.now (restricted_tree c.in_ok-body.body) tree c.as_borrowed.ensures c.in_ok-body.ensures.body in
    let edited = c.in_err-remove.ensures in
    let same = remove_changes_nothing by old c.args.text.now once tree read.0 read.1 c.as_borrowed.result.restricted c.in_err-remove.field-0.0 c.remove.new.self edited in
    let p = err_from_is_err_and c.from_residual-in_err-remove.result c.from_residual-in_err-remove.ensures.1 in
    rw (p.1, p.2) (remove_refused by old c.args.text.now once tree read.0 read.1 c.as_borrowed.result.restricted c.in_err-remove.field-0.0 c.remove.new.self edited same)

pub returns-clause-step : goal.returns-clause-step
returns-clause-step g c =
    let by = setting_of c.args.self.now in
    let tree = borrowed_tree c.as_borrowed.result in
    let read = read_tree by c.args.text.now (restricted_tree c.in_ok-body.body) tree c.as_borrowed.ensures c.in_ok-body.ensures.body in
    rw (c.close.ensures) (remove_done by (world_of c.args.self.now) c.args.text.now (c.texts_are_one.ensures.bodies by) tree read.0 read.1 c.as_borrowed.result.restricted c.remove.new.self (c.in_ok-remove.ensures))
