-- Rests on the step of each method; those that no search finds are taken over to the command by hand.
use Rattle.std.proofs.Common.{sym, subst}
use Rattle.cedar_world.specs.Commands.{Done, Answered}
use Rattle.cedar_world.specs.Step.{Step}
use Rattle.cedar_replies.specs.Replies.{answer_of}
use Rattle.cedar_session.specs.Commands.{command_verb, command_text}
use Rattle.cedar_world.specs.OrdinaryReplies.{RepliesOrdinarily}
use Rattle.cedar_session.specs.Sessions.{setting_of, world_of}
use Rattle.cedar_session.proofs.session.Session.apply.Goals as goal

pub returns-in_ok-link-in-Link-clause-step : goal.returns-in_ok-link-in-Link-clause-step
returns-in_ok-link-in-Link-clause-step g c =
    subst (λ command. Step (setting_of c.args.self.now) (world_of c.args.self.now) (command_verb command) (command_text command) Done (world_of c.link.new.self)) (sym c.in-Link.is) c.in_ok-link-in-Link.ensures.step

pub returns-in_ok-add-in-Add-clause-step : goal.returns-in_ok-add-in-Add-clause-step
returns-in_ok-add-in-Add-clause-step g c =
    subst (λ command. Step (setting_of c.args.self.now) (world_of c.args.self.now) (command_verb command) (command_text command) Done (world_of c.add.new.self)) (sym c.in-Add.is) c.in_ok-add-in-Add.ensures.step

pub returns-in_ok-put-in-Put-clause-step : goal.returns-in_ok-put-in-Put-clause-step
returns-in_ok-put-in-Put-clause-step g c =
    subst (λ command. Step (setting_of c.args.self.now) (world_of c.args.self.now) (command_verb command) (command_text command) Done (world_of c.put.new.self)) (sym c.in-Put.is) c.in_ok-put-in-Put.ensures.step

pub returns-in_ok-remove-in-Remove-clause-step : goal.returns-in_ok-remove-in-Remove-clause-step
returns-in_ok-remove-in-Remove-clause-step g c =
    subst (λ command. Step (setting_of c.args.self.now) (world_of c.args.self.now) (command_verb command) (command_text command) Done (world_of c.remove.new.self)) (sym c.in-Remove.is) c.in_ok-remove-in-Remove.ensures.step

pub returns-in_ok-ask-in-Ask-clause-step : goal.returns-in_ok-ask-in-Ask-clause-step
returns-in_ok-ask-in-Ask-clause-step g c =
    subst (λ command. Step (setting_of c.args.self.now) (world_of c.args.self.now) (command_verb command) (command_text command) (Answered (answer_of c.in_ok-ask-in-Ask.field-0)) (world_of c.ask.new.self))
    (sym c.in-Ask.is) c.in_ok-ask-in-Ask.ensures.step

pub returns-in_ok-tell-in-Tell-clause-step : goal.returns-in_ok-tell-in-Tell-clause-step
returns-in_ok-tell-in-Tell-clause-step g c =
    subst (λ command. Step (setting_of c.args.self.now) (world_of c.args.self.now) (command_verb command) (command_text command) (Answered (answer_of c.in_ok-tell-in-Tell.field-0)) (world_of c.tell.new.self))
    (sym c.in-Tell.is) c.in_ok-tell-in-Tell.ensures.step

pub returns-in_ok-ask-in-Ask-clause-ordinary : goal.returns-in_ok-ask-in-Ask-clause-ordinary
returns-in_ok-ask-in-Ask-clause-ordinary g c =
    subst (λ command. RepliesOrdinarily (setting_of c.args.self.now) (world_of c.args.self.now) (Answered (answer_of c.in_ok-ask-in-Ask.field-0)) (command_verb command))
    (sym c.in-Ask.is) c.in_ok-ask-in-Ask.ensures.ordinary

pub returns-in_ok-tell-in-Tell-clause-ordinary : goal.returns-in_ok-tell-in-Tell-clause-ordinary
returns-in_ok-tell-in-Tell-clause-ordinary g c =
    subst (λ command. RepliesOrdinarily (setting_of c.args.self.now) (world_of c.args.self.now) (Answered (answer_of c.in_ok-tell-in-Tell.field-0)) (command_verb command))
    (sym c.in-Tell.is) c.in_ok-tell-in-Tell.ensures.ordinary
