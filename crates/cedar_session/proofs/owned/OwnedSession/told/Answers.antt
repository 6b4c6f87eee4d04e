-- It is what is kept of the question.
use Rattle.std.proofs.Common.{sym, ap}
use Rattle.std.specs.Option.{option_map}
use Rattle.cedar_session.specs.Lending.{told_of}
use Rattle.cedar_session.specs.Sessions.{asked_of}
use Rattle.cedar_session.proofs.owned.OwnedSession.told.Goals as goal

pub returns-in-Some : goal.returns-in-Some
returns-in-Some g c = sym (ap (λ o. option_map told_of (option_map asked_of o)) c.in-Some.is)
