-- Whatever keeps what is asked of the other variable from being found is a fault, and one that it shows.
use Rattle.std.proofs.Common.{inr}
use Rattle.cedar_faults.proofs.Telling.{tells_more}
use Rattle.cedar_policy_conversion.proofs.Finding.{is_fault}
use Rattle.cedar_policy_conversion.proofs.Parting.{asked_of_is}
use Rattle.cedar_policy_conversion.proofs.constraints.other_variable.Goals as goal

pub returns-in-Err-clause-fault : goal.returns-in-Err-clause-fault
returns-in-Err-clause-fault g c = is_fault c.in-Err.error _ c.in-Err.ensures.constraint

pub returns-in-Err-clause-told : goal.returns-in-Err-clause-told
returns-in-Err-clause-told g c = tells_more c.in-Err.error _ _ (λ k s. inr (asked_of_is c.in-Ok.other _ _ _ k c.in-Ok.ensures s)) c.in-Err.ensures.shown
