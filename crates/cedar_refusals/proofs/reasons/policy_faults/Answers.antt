-- Each error is a fault.
use Rattle.std.proofs.Common.{inr}
use Rattle.std.proofs.lemmas.Result.{IfOk-weaker}
use Rattle.cedar_session.specs.Settings.{setting_with}
use Rattle.cedar_messages.specs.Faults.{AreUnread}
use Rattle.cedar_refusals.specs.Checks.{IsUnread}
use Rattle.cedar_refusals.specs.Reasons.{ShowsPolicies}
use Rattle.cedar_refusals.proofs.reasons.policy_faults.Goals as goal

pub returns : goal.returns
returns g c =
    let by = setting_with g.F.ExtensionFunctionObject.answers c.args.extensions.now c.args.depth in
    let text = c.args.text.now in
    let errors = c.in-Err.errors in
    let unread : IsUnread by text errors = record { refused = c.in-Err.ensures.set; kinds = c.in-Err.ensures.shown } in
    IfOk-weaker c.unread_faults.result (λ faults. AreUnread text errors faults.items) (λ faults. ShowsPolicies by text faults.items)
    (λ faults are. inr (errors, unread, are)) c.unread_faults.ensures
