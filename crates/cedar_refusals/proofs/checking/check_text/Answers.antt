-- The checker was just made.
use Rattle.std.proofs.Common.{◌≡◌, string_bytes, subst}
use Rattle.std.proofs.lemmas.Result.{IfOk-weaker}
use Rattle.cedar_session.specs.Settings.{setting_with}
use Rattle.cedar_world.specs.Setting.{Setting}
use Rattle.cedar_world.specs.World.{World}
use Rattle.cedar_refusals.specs.Checkers.{setting_in, world_in}
use Rattle.cedar_refusals.specs.Checks.{TellsFine, TellsLoaded, TellsRefused}
use Rattle.cedar_refusals.specs.declared.checking.Report.{Report}
use Rattle.cedar_refusals.proofs.checking.check_text.Goals as goal

pub returns-clause-fine : goal.returns-clause-fine
returns-clause-fine g c =
    let by = setting_with g.F.ExtensionFunctionObject.answers c.args.extensions.now 256 in
    let name = c.args.name.now in
    let bytes = c.args.bytes.now in
    let made = c.in_ok-checker.checker in
    let new = world_in c.check.new.self in
    let P : Report → Type 0 = λ report. report.status ≡ 0 → TellsLoaded (setting_in made) (world_in made) new name bytes (string_bytes report.text) in
    let Q : Report → Type 0 = λ report. report.status ≡ 0 → TellsFine by name bytes (string_bytes report.text) in
    let S : Report → Setting → Type 0 = λ report s. TellsLoaded s (world_in made) new name bytes (string_bytes report.text) in
    let W : Report → World → Type 0 = λ report old. TellsLoaded by old new name bytes (string_bytes report.text) in
    IfOk-weaker c.check.result P Q
    (λ report told fine. (new, subst (W report) c.in_ok-checker.ensures.world (subst (S report) c.in_ok-checker.ensures.setting (told fine))))
    c.check.ensures.fine

pub returns-clause-refused : goal.returns-clause-refused
returns-clause-refused g c =
    let by = setting_with g.F.ExtensionFunctionObject.answers c.args.extensions.now 256 in
    let name = c.args.name.now in
    let bytes = c.args.bytes.now in
    let made = c.in_ok-checker.checker in
    let P : Report → Type 0 = λ report. report.status ≡ 1 → TellsRefused (setting_in made) name bytes (string_bytes report.text) in
    let Q : Report → Type 0 = λ report. report.status ≡ 1 → TellsRefused by name bytes (string_bytes report.text) in
    let S : Report → Setting → Type 0 = λ report s. TellsRefused s name bytes (string_bytes report.text) in
    IfOk-weaker c.check.result P Q (λ report told refused. subst (S report) c.in_ok-checker.ensures.setting (told refused)) c.check.ensures.refused
