-- The first error isn't want of memory (Causes).
use Rattle.std.proofs.lemmas.Result.{IfOk-weaker}
use Rattle.cedar_messages.specs.Faults.{AreFaultsOf, AreUnread}
use Rattle.cedar_messages.proofs.Causes.{known_cause}
use Rattle.cedar_messages.proofs.finding.unread_faults.Goals as goal

pub returns : goal.returns
returns c =
    let text = c.args.text.now in
    let errors = c.args.errors.now in
    IfOk-weaker c.faults_of.result (λ faults. AreFaultsOf text errors faults.items) (λ faults. AreUnread text errors faults.items)
    (λ faults are. (known_cause errors.0.head c.in_default.not-Memory, are)) c.faults_of.ensures
