-- The text is read once more by its load, and in the same way.
use Rattle.std.proofs.Common.{Ok, Err, sym, ap, subst, ◌∙◌}
use Rattle.std.proofs.lemmas.Result.{err_from_is_err_and}
use Rattle.cedar_session.specs.Owning.{owned_world}
use Rattle.cedar_named_sessions.specs.Sessions.{setting_of, named_of}
use Rattle.cedar_named_sessions.specs.Steps.{Named, LoadAsStep}
use Rattle.cedar_named_sessions.proofs.OneNamed.{stays, refused_as, loaded_as, not_one}
use Rattle.cedar_named_sessions.proofs.session.NamedSession.load_as.Goals as goal

pub returns-then-len-ne1-clause-step : goal.returns-then-len-ne1-clause-step
returns-then-len-ne1-clause-step g c =
    let old = named_of c.args.self.now in
    let new : Named = record { world = owned_world c.read_policies.new.self; names = c.args.self.now.names } in
    not_one (setting_of c.args.self.now) old new c.args.name.now c.args.text.now c.in_ok-policies.policies c.in_ok-policies.ensures.policies
    (λ e. c.if-len-ne1.true (c.len.ensures.len ∙ e)) (λ j. record { world = c.in_ok-policies.ensures.world j; names = c.args.self.now.names })

pub returns-in_err-load_read-clause-step : goal.returns-in_err-load_read-clause-step
returns-in_err-load_read-clause-step g c =
    let by = setting_of c.args.self.now in
    let old = named_of c.args.self.now in
    let new = named_of c.load_read.new.self in
    let name = c.args.name.now in
    let text = c.args.text.now in
    let e = c.in_err-load_read.field-0.0 in
    let step = stays by old new name text (Err e) c.in_ok-policies.ensures.setting c.in_ok-policies.ensures.world c.in_ok-name.ensures c.in_err-load_read.ensures.step in
    let p = err_from_is_err_and c.from_residual-in_err-load_read.result c.from_residual-in_err-load_read.ensures.1 in
    subst (λ r. LoadAsStep by old name text r new) (sym (p.1 ∙ ap (λ y. Err y) p.2)) (refused_as by old new name text e step)

pub returns-clause-step : goal.returns-clause-step
returns-clause-step g c =
    let by = setting_of c.args.self.now in
    let old = named_of c.args.self.now in
    let new = named_of c.load_read.new.self in
    let name = c.args.name.now in
    let text = c.args.text.now in
    let names = c.in_ok-load_read.field-0.items in
    let step = stays by old new name text (Ok names) c.in_ok-policies.ensures.setting c.in_ok-policies.ensures.world c.in_ok-name.ensures c.in_ok-load_read.ensures.step in
    loaded_as by old new name text c.in_ok-policies.policies c.in_ok-policies.ensures.policies (sym c.len.ensures.len ∙ c.if-len-ne1.false) names step
