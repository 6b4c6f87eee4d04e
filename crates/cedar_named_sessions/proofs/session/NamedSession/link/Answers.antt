-- The session links the template for whose id the name stands.
use Rattle.std.proofs.Common.{◌<◌, Err, length, refl, sym, ap, subst, ◌∙◌}
use Rattle.std.specs.Prelude.{string_bytes}
use Rattle.std.proofs.lemmas.Result.{err_from_is_err_and}
use Rattle.std.proofs.lemmas.Str.{IsUtf8-string_bytes}
use Rattle.cedar_frames.specs.Heads.{body_limit}
use Rattle.cedar_replies.specs.Refusals.{refusal_of}
use Rattle.cedar_replies.specs.Replies.{accepted}
use Rattle.cedar_session.specs.Owning.{owned_world}
use Rattle.cedar_world.specs.Commands.{Link, Refused}
use Rattle.cedar_world.specs.RunText.{BodyStep}
use Rattle.cedar_named_sessions.specs.Links.{IsLinkText}
use Rattle.cedar_named_sessions.specs.Named.{is_taken}
use Rattle.cedar_named_sessions.specs.NameLists.{id_of}
use Rattle.cedar_named_sessions.specs.Sessions.{setting_of, named_of}
use Rattle.cedar_named_sessions.specs.Steps.{Named, LinkStep}
use Rattle.cedar_named_sessions.proofs.Replies.{refused, linked, not_linked}
use Rattle.cedar_named_sessions.proofs.session.NamedSession.link.Goals as goal

pub returns-then-len-gt-BODY_LIMIT-clause-step : goal.returns-then-len-gt-BODY_LIMIT-clause-step
returns-then-len-gt-BODY_LIMIT-clause-step g c =
    let body = string_bytes c.in_ok-text.text in
    let template = c.in-Some.template.now in
    let named = ap (id_of c.args.self.now.names) (sym c.in_ok-name.ensures) ∙ sym c.in-Some.ensures in
    let said = subst (λ i. IsLinkText template i c.args.slots.now body) (c.as_str-2.ensures ∙ c.in_ok-id.ensures)
    (subst (λ t. IsLinkText t c.as_str-2.result.now c.args.slots.now body) c.as_str.ensures c.in_ok-text.ensures.said)
    in
    let long = subst (λ n. body_limit < n) (c.len.ensures ∙ c.in_ok-text.text.bytes.ok.0) c.if-len-gt-BODY_LIMIT.true in
    ((body, (template, named, said), long), refl)

pub returns-in_err-answer-clause-step : goal.returns-in_err-answer-clause-step
returns-in_err-answer-clause-step g c =
    let by = setting_of c.args.self.now in
    let old = named_of c.args.self.now in
    let new : Named = record { world = owned_world c.answer.new.self; names = c.args.self.now.names } in
    let e = c.in_err-answer.field-0.0 in
    let body = string_bytes c.in_ok-text.text in
    let template = c.in-Some.template.now in
    let named = ap (id_of c.args.self.now.names) (sym c.in_ok-name.ensures) ∙ sym c.in-Some.ensures in
    let said = subst (λ i. IsLinkText template i c.args.slots.now body) (c.as_str-2.ensures ∙ c.in_ok-id.ensures)
    (subst (λ t. IsLinkText t c.as_str-2.result.now c.args.slots.now body) c.as_str.ensures c.in_ok-text.ensures.said)
    in
    let here = subst (λ b. BodyStep by old.world Link b (Refused (refusal_of e)) new.world) (c.as_bytes.ensures.value ∙ c.as_str-3.ensures.value) c.in_err-answer.ensures.step in
    let step = refused by old.world body (IsUtf8-string_bytes c.in_ok-text.text) new.world Link (refusal_of e) here in
    let p = err_from_is_err_and c.from_residual-in_err-answer.result c.from_residual-in_err-answer.ensures.1 in
    subst (λ r. LinkStep by old c.args.template.now c.args.id.now c.args.slots.now r new) (sym (p.1 ∙ ap (λ y. Err y) p.2))
    (not_linked by old new c.args.template.now c.args.id.now c.args.slots.now body e (template, named, said) step.0
    (λ j. record { world = step.1 j; names = c.args.self.now.names }))

pub returns-clause-step : goal.returns-clause-step
returns-clause-step g c =
    let by = setting_of c.args.self.now in
    let old = named_of c.args.self.now in
    let new = owned_world c.answer.new.self in
    let reply = c.in_ok-answer.field-0 in
    let body = string_bytes c.in_ok-text.text in
    let template = c.in-Some.template.now in
    let named = ap (id_of c.args.self.now.names) (sym c.in_ok-name.ensures) ∙ sym c.in-Some.ensures in
    let said = subst (λ i. IsLinkText template i c.args.slots.now body) (c.as_str-2.ensures ∙ c.in_ok-id.ensures)
    (subst (λ t. IsLinkText t c.as_str-2.result.now c.args.slots.now body) c.as_str.ensures c.in_ok-text.ensures.said)
    in
    let free = ap (λ i. is_taken old.world.policies old.names i) (sym c.in_ok-id.ensures)
    ∙ ap (λ policies. is_taken policies old.names c.in_ok-id.id) (sym c.policies.ensures.policies) ∙ sym c.is_taken.ensures ∙ c.if-is_taken.false
    in
    let here = subst (λ b. BodyStep by old.world Link b (accepted reply) new) (c.as_bytes.ensures.value ∙ c.as_str-3.ensures.value) c.in_ok-answer.ensures.step in
    (free, (body, (template, named, said), linked by old.world body (IsUtf8-string_bytes c.in_ok-text.text) new reply here), refl)
