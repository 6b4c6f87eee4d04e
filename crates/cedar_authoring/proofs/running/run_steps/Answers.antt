-- One command more is answered (Ran).
use Rattle.std.proofs.Common.{◌+◌, ◌≤◌, Bool, List, length, string_bytes, take, refl, sym, subst, ◌∙◌, arith}
use Rattle.std.proofs.lemmas.List.{take_all}
use Rattle.cedar_world.specs.Setting.{Setting}
use Rattle.cedar_session.specs.Sessions.{setting_of, world_of}
use Rattle.cedar_scripts.specs.declared.script.Step.{Step}
use Rattle.cedar_authoring.specs.Scripts.{AreAnswered, IsAnswered}
use Rattle.cedar_messages.specs.Telling.{AreBelow}
use Rattle.cedar_messages.proofs.Below.{below_more, both_added, nothing_added, nothing_below}
use Rattle.cedar_authoring.proofs.Ran.{nothing_answered, AreAnswered-more}
use Rattle.cedar_authoring.proofs.running.run_steps.Goals as goal

pub loop-step-init : goal.loop-step-init
loop-step-init g c = record {
  answered = nothing_answered (setting_of c.args.session.now) (world_of c.args.session.now);
  setting = refl;
  told = nothing_added AreBelow (string_bytes c.args.wrong.now) nothing_below;
}

pub loop-step-preserved : goal.loop-step-preserved
loop-step-preserved g c =
    let by = setting_of c.args.session.now in
    let old = world_of c.args.session.now in
    let mid = world_of c.loop-step.session in
    let new = world_of c.run_step.new.session in
    let step = c.step-item.result in
    let P : Setting → Type 0 = λ s. IsAnswered s mid step new c.in_ok-expected.expected in
    let Q : Bool → Type 0 = λ fine. AreAnswered by old (take (c.loop-step.step-index + 1) c.args.steps.now) new fine in
    record {
      answered = subst Q (sym c.both-fine.ensures) (AreAnswered-more by old mid new c.args.steps.now c.loop-step.step-index step c.loop-step.fine c.in_ok-expected.expected (omega arith) c.step-item.is
          c.loop-step.invariant.answered (subst P c.loop-step.invariant.setting c.in_ok-expected.ensures.answered));
      setting = c.in_ok-expected.ensures.setting ∙ c.loop-step.invariant.setting;
      told = both_added AreBelow below_more (string_bytes c.args.wrong.now) (string_bytes c.loop-step.wrong) (string_bytes c.run_step.new.wrong) c.loop-step.invariant.told c.in_ok-expected.ensures.told;
    }

pub returns-clause-answered : goal.returns-clause-answered
returns-clause-answered g c =
    let past : length c.args.steps.now ≤ c.loop-step.step-index = omega arith in
    let P : List Step → Type 0 = λ ss. AreAnswered (setting_of c.args.session.now) (world_of c.args.session.now) ss (world_of c.loop-step.session) c.loop-step.fine in
    subst P (take_all c.loop-step.step-index c.args.steps.now past) c.loop-step.invariant.answered
