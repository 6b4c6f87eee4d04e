-- The session was just made, and is given the texts one after another (Refusals).
use Rattle.std.proofs.Common.{◌≡◌, ◌∙◌, List, inr, refl, sym, subst, string_bytes}
use Rattle.std.proofs.lemmas.Result.{IfOk-weaker}
use Rattle.cedar_language.specs.Uid.{Text}
use Rattle.cedar_replies.specs.Refusals.{refusal_of}
use Rattle.cedar_replies.specs.Replies.{answer_of}
use Rattle.cedar_session.specs.Settings.{setting_with}
use Rattle.cedar_session.specs.Sessions.{setting_of, world_of}
use Rattle.cedar_world.specs.Commands.{Load, Put, Ask, Named, Done, Answered, Refused}
use Rattle.cedar_world.specs.Setting.{Setting}
use Rattle.cedar_world.specs.World.{new_world}
use Rattle.cedar_refusals.specs.Checks.{TellsFaults}
use Rattle.cedar_authoring.specs.Explaining.{status_of, TellsAnswered, TellsExplained, TellsUnexplained, policies_refused, entities_refused, question_refused}
use Rattle.cedar_refusals.specs.RefusedBodies.{TellsBody}
use Rattle.cedar_refusals.specs.Titles.{titled_text}
use Rattle.cedar_refusals.specs.declared.checking.Report.{Report}
use Rattle.cedar_authoring.proofs.Refusals.{body_told, never_one, unless_memory, both_ok, stepped}
use Rattle.cedar_authoring.proofs.explaining.explain_texts.Goals as goal

pub returns-in-Err-clause-refused : goal.returns-in-Err-clause-refused
returns-in-Err-clause-refused g c =
    let by = setting_with g.F.ExtensionFunctionObject.answers c.args.extensions.now 256 in
    let start = c.in-Ok.session in
    let new = world_of c.load.new.self in
    let r = c.in-Err.refusal in
    let name = c.args.policies.name.now in
    let text = c.args.policies.text.now in
    let step = stepped (setting_of start) by (world_of start) new_world new Load text (Refused (refusal_of r)) c.in-Ok.ensures.setting c.in-Ok.ensures.world c.in-Err.ensures.step in
    let Q : Report → Type 0 = λ report. TellsFaults by name text (string_bytes report.text) in
    let R : Report → Type 0 = λ report. TellsUnexplained by (titled_text c.args.policies) (titled_text c.args.entities) (titled_text c.args.question) (string_bytes report.text) in
    unless_memory c.refuse_load.result r r (λ (report : Report). report.status ≡ 1) Q R refl c.refuse_load.ensures.other c.refuse_load.ensures.told
    (λ report other told. inr (policies_refused (new, refusal_of r, other, step, told)))

pub returns-in-Err-put-clause-refused : goal.returns-in-Err-put-clause-refused
returns-in-Err-put-clause-refused g c =
    let by = setting_with g.F.ExtensionFunctionObject.answers c.args.extensions.now 256 in
    let start = c.in-Ok.session in
    let loaded = world_of c.load.new.self in
    let new = world_of c.put.new.self in
    let ids = c.in-Ok-load.ids.items in
    let r = c.in-Err-put.refusal in
    let command = c.of-command.result in
    let loads = stepped (setting_of start) by (world_of start) new_world loaded Load c.args.policies.text.now (Named ids) c.in-Ok.ensures.setting c.in-Ok.ensures.world c.in-Ok-load.ensures.step in
    let step = stepped (setting_of c.load.new.self) by loaded loaded new Put c.args.entities.text.now (Refused (refusal_of r)) (c.in-Ok-load.ensures.setting ∙ c.in-Ok.ensures.setting) refl c.in-Err-put.ensures.step in
    let Q : Report → Type 0 = λ report. TellsBody by command.source.name.now command.source.text.now (refusal_of command.refusal) (string_bytes report.text) in
    let R : Report → Type 0 = λ report. TellsUnexplained by (titled_text c.args.policies) (titled_text c.args.entities) (titled_text c.args.question) (string_bytes report.text) in
    unless_memory c.tell_refusal.result r command.refusal (λ (report : Report). report.status ≡ 1) Q R c.of-command.ensures.refusal c.tell_refusal.ensures.other c.tell_refusal.ensures.told
    (λ report other told. inr (
    entities_refused ids loaded loads
    (new, refusal_of r, other, step, body_told by command.source c.args.entities command.refusal r (string_bytes report.text) c.of-command.ensures.source c.of-command.ensures.refusal told)
    ))

pub returns-in-Ok-ask-clause-explained : goal.returns-in-Ok-ask-clause-explained
returns-in-Ok-ask-clause-explained g c =
    let by = setting_with g.F.ExtensionFunctionObject.answers c.args.extensions.now 256 in
    let start = c.in-Ok.session in
    let loaded = world_of c.load.new.self in
    let held = world_of c.put.new.self in
    let asked = world_of c.ask.new.self in
    let ids = c.in-Ok-load.ids.items in
    let answer = answer_of c.in-Ok-ask.answer in
    let name = c.args.policies.name.now in
    let after_load : setting_of c.load.new.self ≡ by = c.in-Ok-load.ensures.setting ∙ c.in-Ok.ensures.setting in
    let after_put : setting_of c.put.new.self ≡ by = c.in_default-put.ensures.setting ∙ after_load in
    let after_ask : setting_of c.ask.new.self ≡ by = c.in-Ok-ask.ensures.setting ∙ after_put in
    let P : Report → Type 0 = λ report. TellsAnswered name (setting_of c.ask.new.self) asked c.as_slice.result.now answer (string_bytes report.text) in
    let Q : Report → Type 0 = λ report. report.status ≡ status_of answer.decision in
    let R : Report → Type 0 = λ report. (report.status ≡ 1 → ⊥) → TellsExplained by name c.args.policies.text.now c.args.entities.text.now c.args.question.text.now report.status (string_bytes report.text) in
    both_ok c.explain.result P Q R
    (λ report tells decides other. record {
      ids = ids;
      loaded = loaded;
      loads = stepped (setting_of start) by (world_of start) new_world loaded Load c.args.policies.text.now (Named ids) c.in-Ok.ensures.setting c.in-Ok.ensures.world c.in-Ok-load.ensures.step;
      held = held;
      puts = stepped (setting_of c.load.new.self) by loaded loaded held Put c.args.entities.text.now Done after_load refl c.in_default-put.ensures.step;
      answer = answer;
      asked = asked;
      asks = stepped (setting_of c.put.new.self) by held held asked Ask c.args.question.text.now (Answered answer) after_put refl c.in-Ok-ask.ensures.step;
      tells = subst (λ (is : List Text). TellsAnswered name by asked is answer (string_bytes report.text)) c.as_slice.ensures.value
          (subst (λ (s : Setting). TellsAnswered name s asked c.as_slice.result.now answer (string_bytes report.text)) after_ask tells);
      decides = decides;
    })
    c.explain.ensures.told c.explain.ensures.status

pub returns-in-Ok-ask-clause-refused : goal.returns-in-Ok-ask-clause-refused
returns-in-Ok-ask-clause-refused g c =
    let decided = (answer_of c.in-Ok-ask.answer).decision in
    let by = setting_with g.F.ExtensionFunctionObject.answers c.args.extensions.now 256 in
    let P : Report → Type 0 = λ report. report.status ≡ status_of decided in
    let Q : Report → Type 0 = λ report. report.status ≡ 1 → TellsUnexplained by (titled_text c.args.policies) (titled_text c.args.entities) (titled_text c.args.question) (string_bytes report.text) in
    IfOk-weaker c.explain.result P Q (λ report decides is. absurd (never_one decided (sym decides ∙ is))) c.explain.ensures.status

pub returns-clause-refused : goal.returns-clause-refused
returns-clause-refused g c =
    let by = setting_with g.F.ExtensionFunctionObject.answers c.args.extensions.now 256 in
    let start = c.in-Ok.session in
    let loaded = world_of c.load.new.self in
    let held = world_of c.put.new.self in
    let new = world_of c.ask.new.self in
    let ids = c.in-Ok-load.ids.items in
    let r = c.in-Err-ask.refusal in
    let after_load : setting_of c.load.new.self ≡ by = c.in-Ok-load.ensures.setting ∙ c.in-Ok.ensures.setting in
    let after_put : setting_of c.put.new.self ≡ by = c.in_default-put.ensures.setting ∙ after_load in
    let loads = stepped (setting_of start) by (world_of start) new_world loaded Load c.args.policies.text.now (Named ids) c.in-Ok.ensures.setting c.in-Ok.ensures.world c.in-Ok-load.ensures.step in
    let puts = stepped (setting_of c.load.new.self) by loaded loaded held Put c.args.entities.text.now Done after_load refl c.in_default-put.ensures.step in
    let step = stepped (setting_of c.put.new.self) by held held new Ask c.args.question.text.now (Refused (refusal_of r)) after_put refl c.in-Err-ask.ensures.step in
    let command = c.of-command-in-Err-ask.result in
    let Q : Report → Type 0 = λ report. TellsBody by command.source.name.now command.source.text.now (refusal_of command.refusal) (string_bytes report.text) in
    let R : Report → Type 0 = λ report. TellsUnexplained by (titled_text c.args.policies) (titled_text c.args.entities) (titled_text c.args.question) (string_bytes report.text) in
    unless_memory c.tell_refusal-in-Err-ask.result r command.refusal (λ (report : Report). report.status ≡ 1) Q R c.of-command-in-Err-ask.ensures.refusal c.tell_refusal-in-Err-ask.ensures.other c.tell_refusal-in-Err-ask.ensures.told
    (λ report other told. inr (
    question_refused ids loaded held loads puts
    (new, refusal_of r, other, step, body_told by command.source c.args.question command.refusal r (string_bytes report.text) c.of-command-in-Err-ask.ensures.source c.of-command-in-Err-ask.ensures.refusal told)
    ))
