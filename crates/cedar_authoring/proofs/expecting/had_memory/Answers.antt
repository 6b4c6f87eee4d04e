-- A refusal that isn't want of memory is another one in the world (Refusals).
use Rattle.std.proofs.Common.{◌≡◌, sym, subst, Result}
use Rattle.std.proofs.lemmas.Result.{on_ok_weaker}
use Rattle.cedar_replies.specs.Replies.{reply_of}
use Rattle.cedar_replies.specs.declared.answer.Reply.{Reply}
use Rattle.cedar_replies.specs.declared.refusal.Refusal.{Refusal}
use Rattle.cedar_authoring.specs.Scripts.{IsFed}
use Rattle.cedar_authoring.proofs.Refusals.{accepted_fed, refused_fed}
use Rattle.cedar_authoring.proofs.expecting.had_memory.Goals as goal

pub returns-in-Ok : goal.returns-in-Ok
returns-in-Ok c = rw c.in-Ok.is (accepted_fed c.in-Ok.field-0)

pub returns-in-Err : goal.returns-in-Err
returns-in-Err c =
    let P : Result Reply Refusal → Type 0 = λ o. IsFed (reply_of o) in
    on_ok_weaker c.unless_memory.result (λ other. subst P (sym c.in-Err.is) (refused_fed c.in-Err.refusal other)) c.unless_memory.ensures
