-- The session takes away what has the id for which the name stands.
use Rattle.std.proofs.Common.{rules, ◌≡◌, ◌<◌, Some, Err, length, refl, sym, ap, subst, ◌∙◌}
use Rattle.std.specs.Prelude.{string_bytes}
use Rattle.std.proofs.lemmas.Result.{err_from_is_err_and}
use Rattle.std.proofs.lemmas.Str.{IsUtf8-string_bytes}
use Rattle.cedar_frames.specs.Heads.{body_limit}
use Rattle.cedar_json.specs.Values.{IsTextOf}
use Rattle.cedar_language.specs.Tree.{Lit, String}
use Rattle.cedar_replies.specs.Refusals.{refusal_of}
use Rattle.cedar_replies.specs.Replies.{accepted}
use Rattle.cedar_session.specs.Owning.{owned_world}
use Rattle.cedar_world.specs.Commands.{Refused}
use Rattle.cedar_world.specs.RunText.{BodyStep}
use Rattle.cedar_named_sessions.specs.NameLists.{id_of}
use Rattle.cedar_named_sessions.specs.Sessions.{setting_of, named_of}
use Rattle.cedar_named_sessions.specs.Steps.{Named, TakeAwayStep}
use Rattle.cedar_named_sessions.proofs.Replies.{refused, taken_away, not_taken}
use Rattle.cedar_named_sessions.proofs.session.NamedSession.take_away.Goals as goal

pub returns-then-len-gt-BODY_LIMIT-clause-step : goal.returns-then-len-gt-BODY_LIMIT-clause-step
returns-then-len-gt-BODY_LIMIT-clause-step g c =
    let id = c.in_ok-id.id in
    let body = string_bytes c.in_ok-text.text in
    let named : id_of c.args.self.now.names c.args.name.now ≡ Some id = search rules in
    let states = subst (λ s. IsTextOf body (Lit (String s))) c.as_str.ensures c.in_ok-text.ensures in
    let long = subst (λ n. body_limit < n) (c.len.ensures ∙ c.in_ok-text.text.bytes.ok.0) c.if-len-gt-BODY_LIMIT.true in
    ((id, body, (named, states), long), refl)

pub returns-in_err-answer-clause-step : goal.returns-in_err-answer-clause-step
returns-in_err-answer-clause-step g c =
    let by = setting_of c.args.self.now in
    let old = named_of c.args.self.now in
    let new : Named = record { world = owned_world c.answer.new.self; names = c.args.self.now.names } in
    let verb = c.args.verb in
    let id = c.in_ok-id.id in
    let body = string_bytes c.in_ok-text.text in
    let e = c.in_err-answer.field-0.0 in
    let named : id_of c.args.self.now.names c.args.name.now ≡ Some id = search rules in
    let states = subst (λ s. IsTextOf body (Lit (String s))) c.as_str.ensures c.in_ok-text.ensures in
    let here = subst (λ b. BodyStep by old.world verb b (Refused (refusal_of e)) new.world) (c.as_bytes.ensures.value ∙ c.as_str-2.ensures.value) c.in_err-answer.ensures.step in
    let step = refused by old.world body (IsUtf8-string_bytes c.in_ok-text.text) new.world verb (refusal_of e) here in
    let p = err_from_is_err_and c.from_residual-in_err-answer.result c.from_residual-in_err-answer.ensures.1 in
    subst (λ r. TakeAwayStep by old verb c.args.name.now r new) (sym (p.1 ∙ ap (λ y. Err y) p.2))
    (not_taken by old new c.args.name.now id body verb e (named, states) step.0 (λ j. record { world = step.1 j; names = c.args.self.now.names }))

pub returns-clause-step : goal.returns-clause-step
returns-clause-step g c =
    let by = setting_of c.args.self.now in
    let old = named_of c.args.self.now in
    let new = owned_world c.answer.new.self in
    let verb = c.args.verb in
    let id = c.in_ok-id.id in
    let body = string_bytes c.in_ok-text.text in
    let reply = c.in_ok-answer.field-0 in
    let named : id_of c.args.self.now.names c.args.name.now ≡ Some id = search rules in
    let states = subst (λ s. IsTextOf body (Lit (String s))) c.as_str.ensures c.in_ok-text.ensures in
    let here = subst (λ b. BodyStep by old.world verb b (accepted reply) new) (c.as_bytes.ensures.value ∙ c.as_str-2.ensures.value) c.in_ok-answer.ensures.step in
    (id, body, (named, states), taken_away by old.world body (IsUtf8-string_bytes c.in_ok-text.text) new verb c.requires reply here, c.take_back.ensures)
