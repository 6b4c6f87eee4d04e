-- The text's policies are given their names and loaded; where they aren't loaded, the names are taken back.
use Rattle.std.proofs.Common.{Ok, sym, ap, subst, ◌∙◌}
use Rattle.cedar_held.specs.PolicyWorlds.{policies_in}
use Rattle.cedar_session.specs.Owning.{owned_world}
use Rattle.cedar_named_sessions.specs.Giving.{given_by, without_all}
use Rattle.cedar_named_sessions.specs.Placed.{ArePlaced}
use Rattle.cedar_named_sessions.specs.Sessions.{setting_of, named_of}
use Rattle.cedar_named_sessions.specs.Steps.{LoadStep}
use Rattle.cedar_named_sessions.proofs.Loads.{done}
use Rattle.cedar_named_sessions.proofs.Placed.{taken_back}
use Rattle.cedar_named_sessions.proofs.session.NamedSession.load_read.Goals as goal

pub returns-in-Ok-clause-step : goal.returns-in-Ok-clause-step
returns-in-Ok-clause-step g c =
    let by = setting_of c.args.self.now in
    let old = named_of c.args.self.now in
    let given = given_by c.args.given in
    let new = owned_world c.load_placed.new.self.session in
    let are = subst (ArePlaced given c.policies-held.result.now c.args.policies.now) (sym c.as_slice-placed.ensures.value) c.in_ok-placed.ensures in
    subst (λ names. LoadStep by old given c.args.text.now (Ok c.in-Ok.names.items) (record { world = new; names = names })) (sym c.in-Ok.ensures.names)
    (done by old given c.args.text.now c.policies-held.result.now c.args.policies.now c.as_slice-placed.result.now c.requires.read are c.policies-held.ensures.policies
    c.loads_are_one.ensures c.give_all.new.names c.in-Ok.names new c.in_ok-give_all.ensures c.in-Ok.ensures.loaded)

pub returns-clause-step : goal.returns-clause-step
returns-clause-step g c =
    let ps = c.as_slice-placed.result.now in
    let back = c.take_back_all.ensures ∙ ap (without_all ps) c.in-Err.ensures.names
    ∙ taken_back (policies_in c.policies-held.result.now) c.args.self.now.names c.give_all.new.names ps c.in_ok-give_all.ensures
    in
    (c.in-Err.ensures.loaded.0, λ j. record { world = c.in-Err.ensures.loaded.1 j; names = back j })
