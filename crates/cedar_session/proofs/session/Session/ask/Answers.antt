-- The policies stay the same while they are indexed.
use Rattle.std.proofs.Common.{subst}
use Rattle.std.specs.Prelude.{IfOk}
use Rattle.cedar_world.specs.Found.{AnswersAsFound}
use Rattle.cedar_replies.specs.Replies.{answer_of}
use Rattle.cedar_session.specs.Sessions.{setting_of, world_holding}
use Rattle.cedar_session.proofs.session.Session.ask.Goals as goal

pub returns-clause-found : goal.returns-clause-found
returns-clause-found g c =
    let self = c.args.self.now in
    subst (λ policies. IfOk c.ask_indexed.result (λ answer. AnswersAsFound (setting_of self) (world_holding policies self.entities self.asked) c.args.text.now (answer_of answer)))
    c.index.ensures c.ask_indexed.ensures.found
