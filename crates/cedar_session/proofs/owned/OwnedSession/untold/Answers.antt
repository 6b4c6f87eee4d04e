-- Each body that is kept states a question (Kept).
use Rattle.std.proofs.Common.{◌∙◌, sym, ap}
use Rattle.std.proofs.lemmas.Result.{IfOk-weaker}
use Rattle.std.specs.Option.{option_map}
use Rattle.cedar_session.specs.Asking.{body_tree}
use Rattle.cedar_session.specs.Lending.{is_untold}
use Rattle.cedar_session.specs.Open.{question_in}
use Rattle.cedar_session.specs.Owning.{owned_setting}
use Rattle.cedar_session.specs.Sessions.{asked_of}
use Rattle.cedar_session.proofs.Kept.{states}
use Rattle.cedar_session.proofs.owned.OwnedSession.untold.Goals as goal

pub returns-in-Some : goal.returns-in-Some
returns-in-Some g c = IfOk-weaker c.untold_of.result _ _ (λ names are n.
    let self = c.args.self.now in
    are (question_in (body_tree c.in-Some.asked.body))
    (states (owned_setting self) self.held.policies self.held.entities c.in-Some.asked self.held.asked c.in-Some.is self.steady) n
    ∙ sym (ap (λ o. is_untold (option_map asked_of o) n) c.in-Some.is)) c.untold_of.ensures
