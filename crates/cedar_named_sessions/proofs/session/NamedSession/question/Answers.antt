-- What the session answers is told by names.
use Rattle.std.proofs.Common.{refl, ap, subst, ◌∙◌}
use Rattle.cedar_replies.specs.Replies.{answer_of, accepted}
use Rattle.cedar_session.specs.Owning.{owned_world}
use Rattle.cedar_world.specs.RunText.{BodyStep}
use Rattle.cedar_named_sessions.specs.Sessions.{setting_of, named_of, answer_told}
use Rattle.cedar_named_sessions.specs.Steps.{Named}
use Rattle.cedar_named_sessions.proofs.Replies.{told_step}
use Rattle.cedar_named_sessions.proofs.session.NamedSession.question.Goals as goal

pub returns-clause-step : goal.returns-clause-step
returns-clause-step g c =
    let by = setting_of c.args.self.now in
    let old = named_of c.args.self.now in
    let new : Named = record { world = owned_world c.answer.new.self; names = c.args.self.now.names } in
    let here = subst (λ body. BodyStep by old.world c.args.verb body (accepted c.in_ok-answer.field-0) new.world) c.as_bytes.ensures.value c.in_ok-answer.ensures.step in
    let step = subst (λ reply. BodyStep by old.world c.args.verb c.args.text.now (accepted reply) new.world) c.in-Answer.is here in
    told_step by old new c.args.text.now c.args.verb (answer_of c.in-Answer.answer) (answer_told c.told.result) c.told.ensures step c.utf8.text refl
