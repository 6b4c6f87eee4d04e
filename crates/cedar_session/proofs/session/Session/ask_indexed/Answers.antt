-- Rests on what the text asks, and on the answer over the policies and entities held.
use Rattle.std.proofs.Common.{refl, sym}
use Rattle.std.proofs.lemmas.Result.{err_from_is_err_and}
use Rattle.cedar_extensions.specs.Table.{as_table}
use Rattle.cedar_world.specs.NameLaws.{is_answered}
use Rattle.cedar_world.specs.Lookups.{IsAskedBy}
use Rattle.cedar_replies.specs.Replies.{answer_of}
use Rattle.cedar_asking.specs.Keeping.{IsNamed}
use Rattle.cedar_session.specs.Asking.{body_tree}
use Rattle.cedar_session.specs.Open.{bare}
use Rattle.cedar_session.specs.Sessions.{setting_of, world_of}
use Rattle.cedar_session.proofs.Kept.{begins, asked_ordinarily}
use Rattle.cedar_session.proofs.Untyped.{question_untyped}
use Rattle.cedar_session.proofs.Asking.{unasked_text, unanswered, answered}
use Rattle.cedar_session.proofs.session.Session.ask_indexed.Goals as goal

pub returns-in_err-body-clause-step : goal.returns-in_err-body-clause-step
returns-in_err-body-clause-step g c =
    let self = c.args.self.now in
    let by = setting_of self in
    let p = err_from_is_err_and c.from_residual.result c.from_residual.ensures.1 in
    rw (p.1, p.2) (unasked_text by (world_of self) c.args.text.now (c.texts_are_one.ensures.bodies by) (as_table g.F.ExtensionFunctionObject.answers self.extensions.now) c.in_err-body.field-0.0 c.in_err-body.ensures.asks)

pub returns-in_err-first-clause-step : goal.returns-in_err-first-clause-step
returns-in_err-first-clause-step g c =
    let self = c.args.self.now in
    let by = setting_of self in
    let tree = body_tree c.in_ok-body.body in
    let body = c.in_ok-body.ensures.asks in
    let asked = body.asks in
    let named : IsNamed asked.0.context = record { well = asked.2.named; untyped = question_untyped (is_answered by.functions) tree asked.0 ((c.calls_are_found.ensures by).bodies c.args.text.now tree (self.depth, body.read)) asked.1 } in
    let unanswerable = c.in_err-first.ensures by (world_of self) asked.0 (record {
      setting = record { functions = body.serves.functions; depth_is = refl };
      slots = c.set-policies.ensures.slots;
      names = c.set-policies.ensures.names;
      policies = sym c.set-policies.ensures.policies;
      shows = c.store-entities.ensures.shows;
      closed = c.store-entities.ensures.closed;
      whole = c.store-entities.ensures.whole;
      built = c.store-entities.ensures.built;
    }) asked.2.is_request named in
    let p = err_from_is_err_and c.from_residual-in_err-first.result c.from_residual-in_err-first.ensures.1 in
    rw (p.1, p.2) (unanswered by (world_of self) c.args.text.now (c.texts_are_one.ensures.bodies by) tree body.read body.low body.restricted asked.0 asked.1 asked.2.fine asked.2.named c.in_err-first.field-0.0 unanswerable)

pub returns-clause-step : goal.returns-clause-step
returns-clause-step g c =
    let self = c.args.self.now in
    let by = setting_of self in
    let tree = body_tree c.in_ok-body.body in
    let body = c.in_ok-body.ensures.asks in
    let asked = body.asks in
    let named : IsNamed asked.0.context = record { well = asked.2.named; untyped = question_untyped (is_answered by.functions) tree asked.0 ((c.calls_are_found.ensures by).bodies c.args.text.now tree (self.depth, body.read)) asked.1 } in
    let first = c.in_ok-first.ensures by (world_of self) asked.0 (record {
      setting = record { functions = body.serves.functions; depth_is = refl };
      slots = c.set-policies.ensures.slots;
      names = c.set-policies.ensures.names;
      policies = sym c.set-policies.ensures.policies;
      shows = c.store-entities.ensures.shows;
      closed = c.store-entities.ensures.closed;
      whole = c.store-entities.ensures.whole;
      built = c.store-entities.ensures.built;
    }) asked.2.is_request named in
    answered by (world_of self) c.args.text.now (c.texts_are_one.ensures.bodies by) tree body.read body.low body.restricted asked.0 asked.1 asked.2.fine asked.2.named
    c.in_ok-first.answer c.in_ok-kept.kept c.in_ok-kept.ensures.cases c.new.result.entries c.new.ensures.empty first.answers

pub returns-clause-ordinary : goal.returns-clause-ordinary
returns-clause-ordinary g c = λ commands replies reached.
    let self = c.args.self.now in
    let by = setting_of self in
    let tree = body_tree c.in_ok-body.body in
    let body = c.in_ok-body.ensures.asks in
    let asked = body.asks in
    let named : IsNamed asked.0.context = record { well = asked.2.named; untyped = question_untyped (is_answered by.functions) tree asked.0 ((c.calls_are_found.ensures by).bodies c.args.text.now tree (self.depth, body.read)) asked.1 } in
    let first = c.in_ok-first.ensures by (world_of self) asked.0 (record {
      setting = record { functions = body.serves.functions; depth_is = refl };
      slots = c.set-policies.ensures.slots;
      names = c.set-policies.ensures.names;
      policies = sym c.set-policies.ensures.policies;
      shows = c.store-entities.ensures.shows;
      closed = c.store-entities.ensures.closed;
      whole = c.store-entities.ensures.whole;
      built = c.store-entities.ensures.built;
    }) asked.2.is_request named in
    c.answers_err_ordinarily.ensures.first by commands replies (world_of self) reached asked.0 (c.args.text.now, tree, (self.depth, body.read), asked.1) (answer_of c.in_ok-first.answer) first.errors

pub returns-clause-found : goal.returns-clause-found
returns-clause-found g c =
    let self = c.args.self.now in
    let by = setting_of self in
    let tree = body_tree c.in_ok-body.body in
    let body = c.in_ok-body.ensures.asks in
    let asked = body.asks in
    let named : IsNamed asked.0.context = record { well = asked.2.named; untyped = question_untyped (is_answered by.functions) tree asked.0 ((c.calls_are_found.ensures by).bodies c.args.text.now tree (self.depth, body.read)) asked.1 } in
    let first = c.in_ok-first.ensures by (world_of self) asked.0 (record {
      setting = record { functions = body.serves.functions; depth_is = refl };
      slots = c.set-policies.ensures.slots;
      names = c.set-policies.ensures.names;
      policies = sym c.set-policies.ensures.policies;
      shows = c.store-entities.ensures.shows;
      closed = c.store-entities.ensures.closed;
      whole = c.store-entities.ensures.whole;
      built = c.store-entities.ensures.built;
    }) asked.2.is_request named in
    (asked.0, tree, (self.depth, body.read), asked.1, first.found)

pub invariant_of-self-2 : goal.invariant_of-self-2
invariant_of-self-2 g c =
    let self = c.args.self.now in
    let by = setting_of self in
    let tree = body_tree c.in_ok-body.body in
    let body = c.in_ok-body.ensures.asks in
    let asked = body.asks in
    let named : IsNamed asked.0.context = record { well = asked.2.named; untyped = question_untyped (is_answered by.functions) tree asked.0 ((c.calls_are_found.ensures by).bodies c.args.text.now tree (self.depth, body.read)) asked.1 } in
    let first = c.in_ok-first.ensures by (bare self.policies self.entities) asked.0 (record {
      setting = record { functions = body.serves.functions; depth_is = refl };
      slots = c.set-policies.ensures.slots;
      names = c.set-policies.ensures.names;
      policies = sym c.set-policies.ensures.policies;
      shows = c.store-entities.ensures.shows;
      closed = c.store-entities.ensures.closed;
      whole = c.store-entities.ensures.whole;
      built = c.store-entities.ensures.built;
    }) asked.2.is_request named in
    let asks : IsAskedBy by asked.0 = (c.args.text.now, tree, (self.depth, body.read), asked.1) in
    record {
      called = c.in_ok-body.ensures.called;
      steady = ∣ begins by self.policies self.entities (record { body = c.in_ok-body.body; first = c.in_ok-first.first; told = c.new.result; answer = c.in_ok-kept.kept })
          asked.0 c.in_ok-first.answer asked.1 (c.args.text.now, (self.depth, body.read)) c.new.ensures.empty c.in_ok-kept.ensures.cases first.keeps
          (asked_ordinarily by self.policies self.entities c.answers_err_ordinarily.ensures c.in_ok-first.answer
          (λ commands replies reached. c.answers_err_ordinarily.ensures.first by commands replies (bare self.policies self.entities) reached asked.0 asks (answer_of c.in_ok-first.answer) first.errors)) ∣₁;
    }
