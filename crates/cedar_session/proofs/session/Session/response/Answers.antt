-- It is what is kept of the question.
use Rattle.std.proofs.Common.{sym, ap, subst}
use Rattle.std.proofs.Math.Logic.{∥∥₁_map}
use Rattle.std.specs.Option.{option_map}
use Rattle.cedar_session.specs.Open.{KeepsOpen}
use Rattle.cedar_session.specs.Sessions.{asked_of, setting_of}
use Rattle.cedar_session.specs.declared.asked.Asked.{Asked}
use Rattle.cedar_session.proofs.session.Session.response.Goals as goal

pub returns-in-Some-clause-response : goal.returns-in-Some-clause-response
returns-in-Some-clause-response g c =
    let self = c.args.self.now in
    record {
      asked = asked_of c.in-Some.asked;
      is_open = ap (option_map asked_of) c.in-Some.is;
      responds = ∥∥₁_map (subst (λ o. ∥ KeepsOpen (setting_of self) self.policies self.entities o ∥₁) c.in-Some.is self.steady) (λ kept. kept.keeps.response);
      says = ∥∥₁_map (subst (λ o. ∥ KeepsOpen (setting_of self) self.policies self.entities o ∥₁) c.in-Some.is self.steady) (λ kept. kept.keeps.waits);
    }

pub returns-in-Some-clause-first : goal.returns-in-Some-clause-first
returns-in-Some-clause-first g c = sym (ap (option_map (λ (a : Asked). a.first)) c.in-Some.is)
