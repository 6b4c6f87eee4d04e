-- Rests on how the text was read, and on where its policies then stand.
use Rattle.std.proofs.lemmas.Result.{err_from_is_err_and}
use Rattle.cedar_session.specs.Sessions.{setting_of, world_of}
use Rattle.cedar_session.proofs.Texts.{unread_load, unplaced, loaded}
use Rattle.cedar_session.proofs.session.Session.load.Goals as goal

pub returns-in_err-policies-clause-step : goal.returns-in_err-policies-clause-step
returns-in_err-policies-clause-step g c =
    let by = setting_of c.args.self.now in
    let p = err_from_is_err_and c.from_residual.result c.from_residual.ensures.1 in
    rw (p.1, p.2) (unread_load by (world_of c.args.self.now) c.args.text.now c.in_err-policies.field-0.0 c.in_err-policies.ensures.policies)

pub returns-in_err-ids-clause-step : goal.returns-in_err-ids-clause-step
returns-in_err-ids-clause-step g c =
    let by = setting_of c.args.self.now in
    let p = err_from_is_err_and c.from_residual-in_err-ids.result c.from_residual-in_err-ids.ensures.1 in
    rw (p.1, p.2) (unplaced by (world_of c.args.self.now) c.args.text.now _ c.in_err-ids.ensures.err)

pub returns-clause-step : goal.returns-clause-step
returns-clause-step g c =
    let by = setting_of c.args.self.now in
    let reads = c.in_ok-policies.ensures.policies in
    rw (c.close.ensures) (loaded by (world_of c.args.self.now) c.args.text.now (c.texts_are_one.ensures.policies by) reads.0 c.in_ok-ids.ids.items _ reads.1 (c.in_ok-ids.ensures.loaded reads.0 reads.2))
