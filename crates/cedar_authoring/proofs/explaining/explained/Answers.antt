-- Each text is that of its bytes.
use Rattle.std.proofs.Common.{◌≡◌, ◌∙◌, Result, Ok, Err, IfOk, IfErr, inl, inr, ap, subst, string_bytes}
use Rattle.std.proofs.lemmas.Result.{IfOk-weaker}
use Rattle.cedar_language.specs.Uid.{Text}
use Rattle.cedar_session.specs.Settings.{setting_with}
use Rattle.cedar_world.specs.Setting.{Setting}
use Rattle.cedar_refusals.specs.Titles.{TellsNoText, Titled, titled_text}
use Rattle.cedar_authoring.specs.Explaining.{TellsUnexplained}
use Rattle.cedar_authoring.specs.Titles.{titled}
use Rattle.cedar_refusals.specs.declared.checking.Report.{Report}
use Rattle.cedar_authoring.specs.declared.explaining.Named.{Named}
use Rattle.cedar_refusals.specs.declared.giving.Source.{Source}
use Rattle.cedar_authoring.proofs.explaining.explained.Goals as goal

given : {A E : Type 0} (read : Result A E) (a : A) (P : A → Type 0) → read ≡ Ok a → IfOk read P → P a
given read a P is holds = subst (λ r. IfOk r P) is holds

refused : {A E : Type 0} (read : Result A E) (e : E) (P : E → Type 0) → read ≡ Err e → IfErr read P → P e
refused read e P is holds = subst (λ r. IfErr r P) is holds

same : (s : Source) (n : Named) → s.name.now ≡ n.name.now → s.text.now ≡ n.bytes.now → titled_text s ≡ titled n
same s n names texts =
    let P : Text → Titled = λ name. record { name = name; text = s.text.now } in
    let Q : Text → Titled = λ text. record { name = n.name.now; text = text } in
    ap P names ∙ ap Q texts

moved : (by : Setting) (told : Text) (a x b y c z : Titled) → a ≡ x → b ≡ y → c ≡ z → TellsUnexplained by a b c told → TellsUnexplained by x y z told
moved by told a x b y c z first second third h =
    let P : Titled → Type 0 = λ t. TellsUnexplained by t y z told in
    let Q : Titled → Type 0 = λ t. TellsUnexplained by a t z told in
    let R : Titled → Type 0 = λ t. TellsUnexplained by a b t told in
    subst P first (subst Q second (subst R third h))

pub returns-in-Err-clause-refused : goal.returns-in-Err-clause-refused
returns-in-Err-clause-refused g c = λ is. inl (inl (refused c.in_ok-source.field-0 c.in-Err.report _ c.in-Err.is c.in_ok-source.ensures.told))

pub returns-in-Err-2-clause-refused : goal.returns-in-Err-2-clause-refused
returns-in-Err-2-clause-refused g c = λ is. inl (inr (inl (refused c.in_ok-source-2.field-0 c.in-Err-2.report _ c.in-Err-2.is c.in_ok-source-2.ensures.told)))

pub returns-in-Err-3-clause-refused : goal.returns-in-Err-3-clause-refused
returns-in-Err-3-clause-refused g c = λ is. inl (inr (inr (refused c.in_ok-question.field-0 c.in-Err-3.report _ c.in-Err-3.is c.in_ok-question.ensures.told)))

pub returns-in-Ok-3-clause-refused : goal.returns-in-Ok-3-clause-refused
returns-in-Ok-3-clause-refused g c =
    let by = setting_with g.F.ExtensionFunctionObject.answers c.args.extensions.now 256 in
    let policies = c.in-Ok.source in
    let entities = c.in-Ok-2.source in
    let question = c.in-Ok-3.question in
    let one = given c.in_ok-source.field-0 policies _ c.in-Ok.is c.in_ok-source.ensures.text in
    let two = given c.in_ok-source-2.field-0 entities _ c.in-Ok-2.is c.in_ok-source-2.ensures.text in
    let three = given c.in_ok-question.field-0 question _ c.in-Ok-3.is c.in_ok-question.ensures.text in
    let first : titled_text policies ≡ titled c.args.policies = same policies c.args.policies one.0 one.1 in
    let second : titled_text entities ≡ titled c.args.entities = same entities c.args.entities two.0 two.1 in
    let third : titled_text question ≡ titled c.args.question = same question c.args.question three.0 three.1 in
    let P : Report → Type 0 = λ report. report.status ≡ 1 → TellsUnexplained by (titled_text policies) (titled_text entities) (titled_text question) (string_bytes report.text) in
    let Q : Report → Type 0 = λ report. report.status ≡ 1 → TellsUnexplained by (titled c.args.policies) (titled c.args.entities) (titled c.args.question) (string_bytes report.text) in
    IfOk-weaker c.explain_texts.result P Q
    (λ report told is. moved by (string_bytes report.text) (titled_text policies) (titled c.args.policies) (titled_text entities) (titled c.args.entities) (titled_text question) (titled c.args.question) first second third (told is))
    c.explain_texts.ensures.refused
