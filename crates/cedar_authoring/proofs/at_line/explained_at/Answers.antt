-- The session was just made, and is given what stands before the line (Going).
use Rattle.std.proofs.Common.{◌≡◌, ◌∙◌, Option, Some, None, IfNone, IfSome, subst, string_bytes}
use Rattle.std.proofs.lemmas.Result.{IfOk-weaker}
use Rattle.cedar_session.specs.Settings.{setting_with}
use Rattle.cedar_session.specs.Sessions.{setting_of, world_of}
use Rattle.cedar_world.specs.Setting.{Setting}
use Rattle.cedar_world.specs.World.{World, new_world}
use Rattle.cedar_authoring.specs.ScriptQuestions.{GoesThrough, IsStopped, IsUnasked, StopsAmong, TellsAnswer, TellsExplainedAt, nothing_asked}
use Rattle.cedar_refusals.specs.declared.checking.Report.{Report}
use Rattle.cedar_authoring.proofs.Going.{explains_there, stops_first, stops_later, stops_there}
use Rattle.cedar_authoring.proofs.at_line.explained_at.Goals as goal

none : {X : Type 0} {o : Option Report} → o ≡ None → IfNone o X → X
none {X} is h = subst (λ (o : Option Report). IfNone o X) is h

some : {X : Type 0} {o : Option Report} {report : Report} → o ≡ Some report → IfSome o (λ r. X) → X
some {X} is h = subst (λ (o : Option Report). IfSome o (λ r. X)) is h

pub returns-in_default-clause-unasked : goal.returns-in_default-clause-unasked
returns-in_default-clause-unasked g c = λ is. nothing_asked c.in_default.ensures.none

pub returns-in-Some-stop-clause-unasked : goal.returns-in-Some-stop-clause-unasked
returns-in-Some-stop-clause-unasked g c = λ is.
    let by = setting_with g.F.ExtensionFunctionObject.answers c.args.extensions.now 256 in
    let q = c.in-Some.question in
    let start = world_of c.in-Ok.session in
    let P : Setting → World → Type 0 = λ b w. StopsAmong b w q.set_up.now in
    let stops = subst (λ (w : World). P by w) c.in-Ok.ensures.world (subst (λ (b : Setting). P b start) c.in-Ok.ensures.setting (some c.in-Some-stop.is c.in_ok-stop.ensures.stopped)) in
    stops_first by c.args.script.now c.args.line q.set_up.now q.before.now q.step.now c.in-Some.ensures.at c.in-Some.ensures.behind stops

pub returns-in-Some-stop-2-clause-unasked : goal.returns-in-Some-stop-2-clause-unasked
returns-in-Some-stop-2-clause-unasked g c = λ is.
    let by = setting_with g.F.ExtensionFunctionObject.answers c.args.extensions.now 256 in
    let q = c.in-Some.question in
    let start = world_of c.in-Ok.session in
    let mid = world_of c.go_through.new.session in
    let P : Setting → World → Type 0 = λ b w. GoesThrough b w q.set_up.now mid in
    let Q : Setting → Type 0 = λ b. StopsAmong b mid q.before.now in
    let first = subst (λ (w : World). P by w) c.in-Ok.ensures.world (subst (λ (b : Setting). P b start) c.in-Ok.ensures.setting (none c.in_default-stop.is c.in_ok-stop.ensures.through)) in
    let stops = subst Q (c.in_ok-stop.ensures.setting ∙ c.in-Ok.ensures.setting) (some c.in-Some-stop-2.is c.in_ok-stop-2.ensures.stopped) in
    stops_later by c.args.script.now c.args.line q.set_up.now q.before.now q.step.now c.in-Some.ensures.at c.in-Some.ensures.behind mid first stops

pub returns-clause-explained : goal.returns-clause-explained
returns-clause-explained g c =
    let by = setting_with g.F.ExtensionFunctionObject.answers c.args.extensions.now 256 in
    let q = c.in-Some.question in
    let start = world_of c.in-Ok.session in
    let mid = world_of c.go_through.new.session in
    let new = world_of c.go_through-2.new.session in
    let one : setting_of c.go_through.new.session ≡ by = c.in_ok-stop.ensures.setting ∙ c.in-Ok.ensures.setting in
    let two : setting_of c.go_through-2.new.session ≡ by = c.in_ok-stop-2.ensures.setting ∙ one in
    let P : Setting → World → Type 0 = λ b w. GoesThrough b w q.set_up.now mid in
    let Q : Setting → Type 0 = λ b. GoesThrough b mid q.before.now new in
    let first = subst (λ (w : World). P by w) c.in-Ok.ensures.world (subst (λ (b : Setting). P b start) c.in-Ok.ensures.setting (none c.in_default-stop.is c.in_ok-stop.ensures.through)) in
    let later = subst Q one (none c.in_default-stop-2.is c.in_ok-stop-2.ensures.through) in
    let R : Report → Type 0 = λ report. (report.status ≡ 1 → ⊥) → TellsAnswer (setting_of c.go_through-2.new.session) new q.step.now report.status (string_bytes report.text) in
    let T : Report → Type 0 = λ report. (report.status ≡ 1 → ⊥) → TellsExplainedAt by c.args.script.now c.args.line report.status (string_bytes report.text) in
    IfOk-weaker c.explain_step.result R T
    (λ report answers other. explains_there by c.args.script.now c.args.line q.set_up.now q.before.now q.step.now c.in-Some.ensures.at c.in-Some.ensures.behind mid new report.status (string_bytes report.text) first later
    (subst (λ (b : Setting). TellsAnswer b new q.step.now report.status (string_bytes report.text)) two (answers other)))
    c.explain_step.ensures.explained

pub returns-clause-unasked : goal.returns-clause-unasked
returns-clause-unasked g c =
    let by = setting_with g.F.ExtensionFunctionObject.answers c.args.extensions.now 256 in
    let q = c.in-Some.question in
    let start = world_of c.in-Ok.session in
    let mid = world_of c.go_through.new.session in
    let new = world_of c.go_through-2.new.session in
    let one : setting_of c.go_through.new.session ≡ by = c.in_ok-stop.ensures.setting ∙ c.in-Ok.ensures.setting in
    let two : setting_of c.go_through-2.new.session ≡ by = c.in_ok-stop-2.ensures.setting ∙ one in
    let P : Setting → World → Type 0 = λ b w. GoesThrough b w q.set_up.now mid in
    let Q : Setting → Type 0 = λ b. GoesThrough b mid q.before.now new in
    let first = subst (λ (w : World). P by w) c.in-Ok.ensures.world (subst (λ (b : Setting). P b start) c.in-Ok.ensures.setting (none c.in_default-stop.is c.in_ok-stop.ensures.through)) in
    let later = subst Q one (none c.in_default-stop-2.is c.in_ok-stop-2.ensures.through) in
    let R : Report → Type 0 = λ report. report.status ≡ 1 → IsStopped (setting_of c.go_through-2.new.session) new q.step.now in
    let T : Report → Type 0 = λ report. report.status ≡ 1 → IsUnasked by c.args.script.now c.args.line in
    IfOk-weaker c.explain_step.result R T
    (λ report stops is. stops_there by c.args.script.now c.args.line q.set_up.now q.before.now q.step.now c.in-Some.ensures.at c.in-Some.ensures.behind mid new first later
    (subst (λ (b : Setting). IsStopped b new q.step.now) two (stops is)))
    c.explain_step.ensures.stopped
