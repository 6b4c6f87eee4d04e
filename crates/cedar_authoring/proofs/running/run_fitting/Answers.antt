-- A session that was just made is given the set-up, and then the commands of the test (Ran).
use Rattle.std.proofs.Common.{◌≡◌, ◌++◌, Bool, List, string_bytes, sym, subst, ◌∙◌}
use Rattle.cedar_world.specs.Setting.{Setting}
use Rattle.cedar_world.specs.World.{World, new_world}
use Rattle.cedar_session.specs.Settings.{setting_with}
use Rattle.cedar_session.specs.Sessions.{setting_of, world_of}
use Rattle.cedar_scripts.specs.declared.script.Step.{Step}
use Rattle.cedar_authoring.specs.Scripts.{AreAnswered}
use Rattle.cedar_messages.specs.Telling.{AreBelow}
use Rattle.cedar_messages.proofs.Below.{below_more, both_added, from_nothing}
use Rattle.cedar_authoring.proofs.Ran.{AreAnswered-append}
use Rattle.cedar_authoring.proofs.running.run_fitting.Goals as goal

pub returns-clause-passes : goal.returns-clause-passes
returns-clause-passes g c =
    let by : Setting = setting_with g.F.ExtensionFunctionObject.answers c.args.extensions.now 256 in
    let set_up : List Step = c.args.set_up.now in
    let steps : List Step = c.args.test.now.steps.items in
    let start : World = world_of c.in-Ok.session in
    let mid : World = world_of c.run_steps.new.session in
    let new : World = world_of c.run_steps-2.new.session in
    let made : setting_of c.in-Ok.session ≡ by = c.in-Ok.ensures.setting in
    let stays : setting_of c.run_steps.new.session ≡ by = c.in_ok-before.ensures.setting ∙ made in
    let P : Setting → World → Type 0 = λ s w. AreAnswered s w set_up mid c.in_ok-before.before in
    let Q : Setting → List Step → Type 0 = λ s ss. AreAnswered s mid ss new c.in_ok-after.after in
    let R : Bool → Type 0 = λ b. AreAnswered by new_world (set_up ++ steps) new b in
    let first : P by new_world = subst (λ (w : World). P by w) c.in-Ok.ensures.world (subst (λ (s : Setting). P s start) made c.in_ok-before.ensures.answered) in
    let later : Q by steps = subst (λ (ss : List Step). Q by ss) c.as_slice-steps.ensures.value (subst (λ (s : Setting). Q s c.as_slice-steps.result.now) stays c.in_ok-after.ensures.answered) in
    (new, subst R (sym c.both-passed.ensures) (AreAnswered-append by new_world mid new set_up steps c.in_ok-before.before c.in_ok-after.after first later))

pub returns-clause-told : goal.returns-clause-told
returns-clause-told g c =
    let start = string_bytes c.new-wrong.result in
    let mid = string_bytes c.run_steps.new.wrong in
    let new = string_bytes c.run_steps-2.new.wrong in
    let below = from_nothing AreBelow start new c.new-wrong.ensures.bytes (both_added AreBelow below_more start mid new c.in_ok-before.ensures.told c.in_ok-after.ensures.told) in
    rw c.as_str.ensures.value at c.in_ok-tell_test.ensures (subst AreBelow (sym c.as_str-2.ensures.value) below)
