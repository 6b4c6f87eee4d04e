-- A session reads policies as a text is read with its table and limit (Checked).
use Rattle.std.proofs.Common.{string_bytes}
use Rattle.std.proofs.lemmas.Result.{IfOk-weaker}
use Rattle.cedar_session.specs.Settings.{setting_with}
use Rattle.cedar_refusals.specs.Checkers.{setting_in}
use Rattle.cedar_refusals.specs.Checks.{TellsFaults}
use Rattle.cedar_refusals.specs.declared.checking.Report.{Report}
use Rattle.cedar_refusals.proofs.Checked.{alike_back, told_alike}
use Rattle.cedar_refusals.proofs.checking.Checker.tell_refused.Goals as goal

pub returns-clause-faults : goal.returns-clause-faults
returns-clause-faults g c =
    let by = setting_with g.F.ExtensionFunctionObject.answers c.args.self.now.extensions.now 256 in
    let own = setting_in c.args.self.now in
    let name = c.args.name.now in
    let text = c.args.text.now in
    let P : Report → Type 0 = λ report. TellsFaults by name text (string_bytes report.text) in
    let Q : Report → Type 0 = λ report. TellsFaults own name text (string_bytes report.text) in
    let alike = alike_back own by c.args.self.now.alike in
    IfOk-weaker c.refuse_unread.result P Q (λ report told. told_alike by own name text (string_bytes report.text) alike told) c.refuse_unread.ensures.faults
