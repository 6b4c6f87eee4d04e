-- One command more is taken, or stops it (Going).
use Rattle.std.proofs.Common.{◌≡◌, ◌≤◌, ◌∙◌, List, Option, IfNone, IfSome, length, take, refl, subst, string_bytes, arith}
use Rattle.std.proofs.lemmas.List.{take_all}
use Rattle.cedar_session.specs.Sessions.{setting_of, world_of}
use Rattle.cedar_world.specs.Setting.{Setting}
use Rattle.cedar_authoring.specs.ScriptQuestions.{GoesOn, GoesThrough, IsStopped}
use Rattle.cedar_refusals.specs.declared.checking.Report.{Report}
use Rattle.cedar_scripts.specs.declared.script.Step.{Step}
use Rattle.cedar_authoring.proofs.Going.{through_nothing, through_more, stops_at}
use Rattle.cedar_authoring.proofs.at_line.go_through.Goals as goal

pub loop-step-init : goal.loop-step-init
loop-step-init g c = record { goes = through_nothing (setting_of c.args.session.now) (world_of c.args.session.now); setting = refl }

pub loop-step-preserved : goal.loop-step-preserved
loop-step-preserved g c =
    let by = setting_of c.args.session.now in
    let old = world_of c.args.session.now in
    let mid = world_of c.loop-step.session in
    let new = world_of c.go_on.new.session in
    let s = c.step-item.result in
    let P : Setting → Type 0 = λ b. GoesOn b mid s new in
    let Q : Option Report → Type 0 = λ stop. IfNone stop (GoesOn (setting_of c.loop-step.session) mid s new) in
    let on = subst Q c.in_default.is c.in_ok-stop.ensures.on in
    record {
      goes = through_more by old mid new c.args.steps.now c.loop-step.step-index s (omega arith) c.step-item.is c.loop-step.invariant.goes
          (subst P c.loop-step.invariant.setting on);
      setting = c.in_ok-stop.ensures.setting ∙ c.loop-step.invariant.setting;
    }

pub returns-in-Some-clause-stopped : goal.returns-in-Some-clause-stopped
returns-in-Some-clause-stopped g c =
    let by = setting_of c.args.session.now in
    let old = world_of c.args.session.now in
    let mid = world_of c.loop-step.session in
    let s = c.step-item.result in
    let P : Setting → Type 0 = λ b. IsStopped b mid s in
    let Q : Option Report → Type 0 = λ stop. IfSome stop (λ report. IsStopped (setting_of c.loop-step.session) mid s) in
    let stops = subst Q c.in-Some.is c.in_ok-stop.ensures.stopped in
    stops_at by old mid c.args.steps.now c.loop-step.step-index s (omega arith) c.step-item.is c.loop-step.invariant.goes
    (subst P c.loop-step.invariant.setting stops)

pub returns-clause-through : goal.returns-clause-through
returns-clause-through g c =
    let past : length c.args.steps.now ≤ c.loop-step.step-index = omega arith in
    let P : List Step → Type 0 = λ ss. GoesThrough (setting_of c.args.session.now) (world_of c.args.session.now) ss (world_of c.loop-step.session) in
    subst P (take_all c.loop-step.step-index c.args.steps.now past) c.loop-step.invariant.goes
