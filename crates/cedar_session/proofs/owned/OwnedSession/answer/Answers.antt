-- The setting of what is held again is that of the table and the limit, which stay.
use Rattle.std.proofs.Common.{◌∙◌, subst}
use Rattle.cedar_session.specs.Calling.{AreNamesOf}
use Rattle.cedar_session.specs.Open.{KeepsOpen}
use Rattle.cedar_session.proofs.owned.OwnedSession.answer.Goals as goal

pub invariant_of-self : goal.invariant_of-self
invariant_of-self g c =
    let held = c.into_held.result in
    let same = c.apply-outcome.ensures.setting ∙ c.resumed-session.ensures.setting in
    record {
      called = subst (λ by. AreNamesOf by.functions held.names) same c.into_held.ensures.called;
      steady = subst (λ by. ∥ KeepsOpen by held.policies held.entities held.asked ∥₁) same c.into_held.ensures.steady;
    }
