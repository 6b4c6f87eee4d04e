-- The session answers, and that is told, or it refuses (Refusals).
use Rattle.std.proofs.Common.{◌≡◌, ◌∙◌, Result, inr, sym, subst, string_bytes}
use Rattle.std.proofs.lemmas.Result.{IfOk-weaker}
use Rattle.cedar_replies.specs.Refusals.{refusal_of}
use Rattle.cedar_replies.specs.Replies.{accepted, answer_of, reply_of}
use Rattle.cedar_replies.specs.declared.answer.Reply.{Reply}
use Rattle.cedar_replies.specs.declared.refusal.Refusal.{Refusal}
use Rattle.cedar_session.specs.Sessions.{setting_of, world_of}
use Rattle.cedar_world.specs.Setting.{Setting}
use Rattle.cedar_world.specs.Step.{Step as Steps}
use Rattle.cedar_authoring.specs.Explaining.{status_of}
use Rattle.cedar_authoring.specs.ScriptQuestions.{IsStopped, TellsAnswer, TellsAsked}
use Rattle.cedar_refusals.specs.declared.checking.Report.{Report}
use Rattle.cedar_authoring.proofs.Refusals.{both_ok, never_one, other_refusal, some_status}
use Rattle.cedar_authoring.proofs.at_line.explain_step.Goals as goal

pub returns-in-Ok-Answer-clause-explained : goal.returns-in-Ok-Answer-clause-explained
returns-in-Ok-Answer-clause-explained g c =
    let by = setting_of c.args.session.now in
    let old = world_of c.args.session.now in
    let new = world_of c.apply.new.self in
    let s = c.args.step.now in
    let answer = answer_of c.in-Ok-Answer.answer in
    let P : Result Reply Refusal → Type 0 = λ o. Steps by old s.verb (string_bytes s.body) (reply_of o) new in
    let S : Reply → Type 0 = λ r. Steps by old s.verb (string_bytes s.body) (accepted r) new in
    let asks = subst S c.in-Ok-Answer.field-0-is (subst P c.in-Ok-Answer.is (rw (c.of.ensures.verb, c.of.ensures.text, c.as_str.ensures.value) at c.apply.ensures.step)) in
    let Q : Report → Type 0 = λ report. TellsAsked (setting_of c.apply.new.self) new answer (string_bytes report.text) in
    let R : Report → Type 0 = λ report. report.status ≡ status_of answer.decision in
    let T : Report → Type 0 = λ report. (report.status ≡ 1 → ⊥) → TellsAnswer by old s report.status (string_bytes report.text) in
    both_ok c.explain.result Q R T
    (λ report tells decides other. record {
      answer = answer;
      asked = new;
      asks = asks;
      tells = subst (λ (b : Setting). TellsAsked b new answer (string_bytes report.text)) c.apply.ensures.setting tells;
      decides = decides;
    })
    c.explain.ensures.told c.explain.ensures.status

pub returns-in-Ok-Answer-clause-stopped : goal.returns-in-Ok-Answer-clause-stopped
returns-in-Ok-Answer-clause-stopped g c =
    let decided = (answer_of c.in-Ok-Answer.answer).decision in
    let P : Report → Type 0 = λ report. report.status ≡ status_of decided in
    let Q : Report → Type 0 = λ report. report.status ≡ 1 → IsStopped (setting_of c.args.session.now) (world_of c.args.session.now) c.args.step.now in
    IfOk-weaker c.explain.result P Q (λ report decides is. absurd (never_one decided (sym decides ∙ is))) c.explain.ensures.status

pub returns-clause-stopped : goal.returns-clause-stopped
returns-clause-stopped g c =
    let by = setting_of c.args.session.now in
    let old = world_of c.args.session.now in
    let new = world_of c.apply.new.self in
    let s = c.args.step.now in
    let r = c.in-Err.refusal in
    let P : Result Reply Refusal → Type 0 = λ o. Steps by old s.verb (string_bytes s.body) (reply_of o) new in
    let refused = subst P c.in-Err.is (rw (c.of.ensures.verb, c.of.ensures.text, c.as_str.ensures.value) at c.apply.ensures.step) in
    let Q : Report → Type 0 = λ report. report.status ≡ 1 → IsStopped by old s in
    IfOk-weaker c.stop.result _ Q (λ report other is. inr (new, refusal_of r, other_refusal r other, refused)) c.stop.ensures.other
