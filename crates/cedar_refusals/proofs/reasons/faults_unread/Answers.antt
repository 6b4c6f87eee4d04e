-- Each error, or the part that may not stand there.
use Rattle.cedar_refusals.proofs.reasons.faults_unread.Goals as goal

pub returns-in-Parse : goal.returns-in-Parse
returns-in-Parse c = rw c.in-Parse.is c.unread_faults.ensures

pub returns-in-InvalidRestrictedExpression : goal.returns-in-InvalidRestrictedExpression
returns-in-InvalidRestrictedExpression c = rw c.in-InvalidRestrictedExpression.is c.offence.ensures
