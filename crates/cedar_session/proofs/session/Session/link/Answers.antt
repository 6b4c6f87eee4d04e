-- What any command comes to that edits the policies by a body, for the cases of a link.
use Rattle.std.proofs.Common.{sym, refl}
use Rattle.std.proofs.lemmas.Result.{err_from_is_err_and}
use Rattle.cedar_restricted.specs.Views.{restricted_tree}
use Rattle.cedar_trees.specs.Bare.{bare}
use Rattle.cedar_world.specs.Bodies.{link_body}
use Rattle.cedar_world.specs.Commands.{Link}
use Rattle.cedar_world.specs.Refusals.{LinkCases}
use Rattle.cedar_session.specs.Sessions.{setting_of, world_of}
use Rattle.cedar_session.proofs.Texts.{read_tree}
use Rattle.cedar_session.proofs.PolicyCommands.{link_is_late, unread, shapeless, link_refused, link_done}
use Rattle.cedar_session.proofs.session.Session.link.Goals as goal

pub returns-in_err-body-clause-step : goal.returns-in_err-body-clause-step
returns-in_err-body-clause-step g c =
    let by = setting_of c.args.self.now in
    let old = world_of c.args.self.now in
    let p = err_from_is_err_and c.from_residual.result c.from_residual.ensures.1 in
    rw (p.1, p.2) (unread by old c.args.text.now Link (λ h. cc) link_body (LinkCases old.policies) refl (link_is_late old.policies) (c.texts_are_one.ensures.bodies by) c.in_err-body.field-0.0 c.in_err-body.ensures.body)

pub returns-in_default-clause-step : goal.returns-in_default-clause-step
returns-in_default-clause-step g c =
    let by = setting_of c.args.self.now in
    let old = world_of c.args.self.now in
    let tree = bare c.as_ref.result.now in
    let read = read_tree by c.args.text.now (restricted_tree c.in_ok-body.body) tree c.as_ref.ensures.tree c.in_ok-body.ensures.body in
    shapeless by old c.args.text.now Link (λ h. cc) link_body (LinkCases old.policies) refl (link_is_late old.policies) (c.texts_are_one.ensures.bodies by) tree read.0 read.1 c.as_ref.ensures.restricted
    (sym (rw c.in_default.is at c.link_body.ensures))

pub returns-in_err-link-clause-step : goal.returns-in_err-link-clause-step
returns-in_err-link-clause-step g c =
    let by = setting_of c.args.self.now in
    let old = world_of c.args.self.now in
    let tree = bare c.as_ref.result.now in
    let read = read_tree by c.args.text.now (restricted_tree c.in_ok-body.body) tree c.as_ref.ensures.tree c.in_ok-body.ensures.body in
    let p = err_from_is_err_and c.from_residual-in_err-link.result c.from_residual-in_err-link.ensures.1 in
    rw (p.1, p.2) (link_refused by old c.args.text.now (c.texts_are_one.ensures.bodies by) tree read.0 read.1 c.as_ref.ensures.restricted _ (sym (rw c.in-Some.is at c.link_body.ensures)) c.in_err-link.field-0.0 c.link.new.self c.in_err-link.ensures)

pub returns-clause-step : goal.returns-clause-step
returns-clause-step g c =
    let by = setting_of c.args.self.now in
    let old = world_of c.args.self.now in
    let tree = bare c.as_ref.result.now in
    let read = read_tree by c.args.text.now (restricted_tree c.in_ok-body.body) tree c.as_ref.ensures.tree c.in_ok-body.ensures.body in
    rw (c.close.ensures) (link_done by old c.args.text.now (c.texts_are_one.ensures.bodies by) tree read.0 read.1 c.as_ref.ensures.restricted _ (sym (rw c.in-Some.is at c.link_body.ensures)) c.link.new.self c.in_ok-link.ensures)
