-- What any command comes to that takes away what stands under an id, for the cases of this one.
use Rattle.std.proofs.Common.{refl}
use Rattle.std.specs.Rc.{rc_str_bytes}
use Rattle.std.proofs.lemmas.Result.{err_from_is_err_and}
use Rattle.cedar_world.specs.Commands.{RemoveStatic}
use Rattle.cedar_world.specs.Refusals.{RemoveStaticCases}
use Rattle.cedar_session.specs.Sessions.{setting_of, world_of}
use Rattle.cedar_session.proofs.PolicyCommands.{remove_static_is_late, id_unread, id_refused, id_done}
use Rattle.cedar_session.proofs.session.Session.remove_static.Goals as goal

pub returns-in_err-id-clause-step : goal.returns-in_err-id-clause-step
returns-in_err-id-clause-step g c =
    let by = setting_of c.args.self.now in
    let old = world_of c.args.self.now in
    let p = err_from_is_err_and c.from_residual.result c.from_residual.ensures.1 in
    rw (p.1, p.2) (id_unread by old c.args.text.now RemoveStatic (λ h. cc) (RemoveStaticCases old.policies) refl (remove_static_is_late old.policies) (c.texts_are_one.ensures.bodies by) c.in_err-id.field-0.0 c.in_err-id.ensures.id)

pub returns-in_err-remove_static-clause-step : goal.returns-in_err-remove_static-clause-step
returns-in_err-remove_static-clause-step g c =
    let by = setting_of c.args.self.now in
    let old = world_of c.args.self.now in
    let p = err_from_is_err_and c.from_residual-in_err-remove_static.result c.from_residual-in_err-remove_static.ensures.1 in
    rw (p.1, p.2) (id_refused by old c.args.text.now RemoveStatic (λ h. cc) (RemoveStaticCases old.policies) refl (remove_static_is_late old.policies) (c.texts_are_one.ensures.bodies by) (rc_str_bytes c.in_ok-id.id) c.in_ok-id.ensures.id c.in_err-remove_static.field-0.0 c.remove_static.new.self c.in_err-remove_static.ensures)

pub returns-clause-step : goal.returns-clause-step
returns-clause-step g c =
    let by = setting_of c.args.self.now in
    let old = world_of c.args.self.now in
    rw (c.close.ensures) (id_done by old c.args.text.now RemoveStatic (λ h. cc) (RemoveStaticCases old.policies) refl (remove_static_is_late old.policies) (c.texts_are_one.ensures.bodies by) (rc_str_bytes c.in_ok-id.id) c.in_ok-id.ensures.id c.remove_static.new.self (λ does. does) c.in_ok-remove_static.ensures)
