-- Rests on how the body was read, on what it tells, and on the answer to the open question once more is told.
use Rattle.std.proofs.Common.{refl, ap}
use Rattle.std.proofs.lemmas.Result.{err_from_is_err_and}
use Rattle.std.specs.Option.{option_map}
use Rattle.cedar_extensions.specs.Table.{as_table}
use Rattle.cedar_restricted.specs.Views.{restricted_tree}
use Rattle.cedar_session.specs.Sessions.{setting_of, world_of, asked_of}
use Rattle.cedar_session.proofs.Texts.{read_tree, serves}
use Rattle.cedar_session.proofs.Telling.{unread_tell, untold}
use Rattle.cedar_session.proofs.Kept.{IsStoreOf, states, keeps_on, accepted, refused, errs_ordinarily, waits_for_names}
use Rattle.cedar_session.proofs.session.Session.tell.Goals as goal

pub returns-in_err-body-clause-step : goal.returns-in_err-body-clause-step
returns-in_err-body-clause-step g c =
    let self = c.args.self.now in
    let by = setting_of self in
    let p = err_from_is_err_and c.from_residual.result c.from_residual.ensures.1 in
    rw (p.1, p.2) (unread_tell by (world_of self) c.args.text.now (c.texts_are_one.ensures.bodies by) (asked_of c.in-Some.asked) (ap (option_map asked_of) c.in-Some.is) c.in_err-body.field-0.0 c.in_err-body.ensures.body)

pub returns-in_err-told-clause-step : goal.returns-in_err-told-clause-step
returns-in_err-told-clause-step g c =
    let self = c.args.self.now in
    let by = setting_of self in
    let tree = restricted_tree c.in_ok-body.body in
    let read = read_tree by c.args.text.now tree tree refl c.in_ok-body.ensures.body in
    let served = serves g.F.ExtensionFunctionObject.answers self.extensions.now self.depth tree tree refl c.names_are_defined.ensures c.in_ok-body.ensures.calls in
    let stated = states by self.policies self.entities c.in-Some.asked self.asked c.in-Some.is self.steady in
    let p = err_from_is_err_and c.from_residual-in_err-told.result c.from_residual-in_err-told.ensures.1 in
    rw (p.1, p.2) (untold by (world_of self) c.args.text.now (c.texts_are_one.ensures.bodies by) (asked_of c.in-Some.asked) (ap (option_map asked_of) c.in-Some.is) tree read.0 read.1 c.in_ok-body.body.restricted
    c.in_err-told.field-0.0 (c.in_err-told.ensures by _ served stated))

pub returns-in_err-answer-clause-step : goal.returns-in_err-answer-clause-step
returns-in_err-answer-clause-step g c =
    let self = c.args.self.now in
    let by = setting_of self in
    let tree = restricted_tree c.in_ok-body.body in
    let read = read_tree by c.args.text.now tree tree refl c.in_ok-body.ensures.body in
    let served = serves g.F.ExtensionFunctionObject.answers self.extensions.now self.depth tree tree refl c.names_are_defined.ensures c.in_ok-body.ensures.calls in
    let stated = states by self.policies self.entities c.in-Some.asked self.asked c.in-Some.is self.steady in
    let tells = c.in_ok-told.ensures by _ served stated in
    let table = as_table g.F.ExtensionFunctionObject.answers self.extensions.now in
    let holds : IsStoreOf by table self.entities c.store.result.now = record { setting = record { functions = served.functions; depth_is = refl }; shows = c.store.ensures.shows; closed = c.store.ensures.closed; whole = c.store.ensures.whole; built = c.store.ensures.built } in
    let p = err_from_is_err_and c.from_residual-in_err-answer.result c.from_residual-in_err-answer.ensures.1 in
    rw (p.1, p.2) (refused by self.policies self.entities c.in-Some.asked self.asked c.in-Some.is self.steady c.more_is_told.ensures (record { listed = c.answers_read_what_is_in_force.ensures.listed; found = c.answers_read_what_is_in_force.ensures.found; known = c.answers_read_what_is_in_force.ensures.known; alike = c.answers_read_what_is_in_force.ensures.alike }) table c.in_ok-told.told tells.0 tells.2 c.store.result.now holds
    c.args.text.now (c.texts_are_one.ensures.bodies by) tree read.0 read.1 c.in_ok-body.body.restricted tells.1
    c.in_err-answer.field-0.0 (λ es keeps. c.in_err-answer.ensures by _ _ _ es keeps))

pub invariant_of-self-2 : goal.invariant_of-self-2
invariant_of-self-2 g c =
    let self = c.args.self.now in
    let by = setting_of self in
    let tree = restricted_tree c.in_ok-body.body in
    let read = read_tree by c.args.text.now tree tree refl c.in_ok-body.ensures.body in
    let served = serves g.F.ExtensionFunctionObject.answers self.extensions.now self.depth tree tree refl c.names_are_defined.ensures c.in_ok-body.ensures.calls in
    let stated = states by self.policies self.entities c.in-Some.asked self.asked c.in-Some.is self.steady in
    let tells = c.in_ok-told.ensures by _ served stated in
    let table = as_table g.F.ExtensionFunctionObject.answers self.extensions.now in
    let holds : IsStoreOf by table self.entities c.store.result.now = record { setting = record { functions = served.functions; depth_is = refl }; shows = c.store.ensures.shows; closed = c.store.ensures.closed; whole = c.store.ensures.whole; built = c.store.ensures.built } in
    record {
      called = c.in_ok-body.ensures.called;
      steady = keeps_on by self.policies self.entities c.in-Some.asked self.asked c.in-Some.is self.steady c.more_is_told.ensures (record { listed = c.answers_read_what_is_in_force.ensures.listed; found = c.answers_read_what_is_in_force.ensures.found; known = c.answers_read_what_is_in_force.ensures.known; alike = c.answers_read_what_is_in_force.ensures.alike }) table c.in_ok-told.told tells.0 tells.2 c.store.result.now holds
          c.in_ok-answer.answer c.in_ok-kept.kept c.in_ok-kept.ensures.cases (λ es keeps. c.in_ok-answer.ensures by _ _ _ es keeps) c.go_on.new.asked c.go_on.ensures c.answers_err_ordinarily.ensures;
    }

pub returns-clause-step : goal.returns-clause-step
returns-clause-step g c =
    let self = c.args.self.now in
    let by = setting_of self in
    let tree = restricted_tree c.in_ok-body.body in
    let read = read_tree by c.args.text.now tree tree refl c.in_ok-body.ensures.body in
    let served = serves g.F.ExtensionFunctionObject.answers self.extensions.now self.depth tree tree refl c.names_are_defined.ensures c.in_ok-body.ensures.calls in
    let stated = states by self.policies self.entities c.in-Some.asked self.asked c.in-Some.is self.steady in
    let tells = c.in_ok-told.ensures by _ served stated in
    let table = as_table g.F.ExtensionFunctionObject.answers self.extensions.now in
    let holds : IsStoreOf by table self.entities c.store.result.now = record { setting = record { functions = served.functions; depth_is = refl }; shows = c.store.ensures.shows; closed = c.store.ensures.closed; whole = c.store.ensures.whole; built = c.store.ensures.built } in
    accepted by self.policies self.entities c.in-Some.asked self.asked c.in-Some.is self.steady c.more_is_told.ensures (record { listed = c.answers_read_what_is_in_force.ensures.listed; found = c.answers_read_what_is_in_force.ensures.found; known = c.answers_read_what_is_in_force.ensures.known; alike = c.answers_read_what_is_in_force.ensures.alike }) table c.in_ok-told.told tells.0 tells.2 c.store.result.now holds
    c.args.text.now (c.texts_are_one.ensures.bodies by) tree read.0 read.1 c.in_ok-body.body.restricted tells.1
    c.in_ok-answer.answer c.in_ok-kept.kept c.in_ok-kept.ensures.cases (λ es keeps. c.in_ok-answer.ensures by _ _ _ es keeps) c.go_on.new.asked c.go_on.ensures

pub returns-clause-ordinary : goal.returns-clause-ordinary
returns-clause-ordinary g c =
    let self = c.args.self.now in
    let by = setting_of self in
    let tree = restricted_tree c.in_ok-body.body in
    let read = read_tree by c.args.text.now tree tree refl c.in_ok-body.ensures.body in
    let served = serves g.F.ExtensionFunctionObject.answers self.extensions.now self.depth tree tree refl c.names_are_defined.ensures c.in_ok-body.ensures.calls in
    let stated = states by self.policies self.entities c.in-Some.asked self.asked c.in-Some.is self.steady in
    let tells = c.in_ok-told.ensures by _ served stated in
    let table = as_table g.F.ExtensionFunctionObject.answers self.extensions.now in
    let holds : IsStoreOf by table self.entities c.store.result.now = record { setting = record { functions = served.functions; depth_is = refl }; shows = c.store.ensures.shows; closed = c.store.ensures.closed; whole = c.store.ensures.whole; built = c.store.ensures.built } in
    errs_ordinarily by self.policies self.entities c.in-Some.asked self.asked c.in-Some.is self.steady c.more_is_told.ensures (record { listed = c.answers_read_what_is_in_force.ensures.listed; found = c.answers_read_what_is_in_force.ensures.found; known = c.answers_read_what_is_in_force.ensures.known; alike = c.answers_read_what_is_in_force.ensures.alike }) table c.in_ok-told.told tells.0 tells.2 c.store.result.now holds
    c.answers_err_ordinarily.ensures c.in_ok-answer.answer (λ es keeps. c.in_ok-answer.ensures by _ _ _ es keeps)

pub returns-clause-waits : goal.returns-clause-waits
returns-clause-waits g c =
    let self = c.args.self.now in
    let by = setting_of self in
    let tree = restricted_tree c.in_ok-body.body in
    let read = read_tree by c.args.text.now tree tree refl c.in_ok-body.ensures.body in
    let served = serves g.F.ExtensionFunctionObject.answers self.extensions.now self.depth tree tree refl c.names_are_defined.ensures c.in_ok-body.ensures.calls in
    let stated = states by self.policies self.entities c.in-Some.asked self.asked c.in-Some.is self.steady in
    let tells = c.in_ok-told.ensures by _ served stated in
    let table = as_table g.F.ExtensionFunctionObject.answers self.extensions.now in
    let holds : IsStoreOf by table self.entities c.store.result.now = record { setting = record { functions = served.functions; depth_is = refl }; shows = c.store.ensures.shows; closed = c.store.ensures.closed; whole = c.store.ensures.whole; built = c.store.ensures.built } in
    waits_for_names by self.policies self.entities c.in-Some.asked self.asked c.in-Some.is self.steady c.more_is_told.ensures (record { listed = c.answers_read_what_is_in_force.ensures.listed; found = c.answers_read_what_is_in_force.ensures.found; known = c.answers_read_what_is_in_force.ensures.known; alike = c.answers_read_what_is_in_force.ensures.alike }) table c.in_ok-told.told tells.0 tells.2 c.store.result.now holds
    c.in_ok-answer.answer c.in_ok-kept.kept c.in_ok-kept.ensures.cases (λ es keeps. c.in_ok-answer.ensures by _ _ _ es keeps) c.go_on.new.asked c.go_on.ensures
