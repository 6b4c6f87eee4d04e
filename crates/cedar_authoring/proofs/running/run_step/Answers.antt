-- The session's answer is compared.
use Rattle.std.proofs.Common.{string_bytes}
use Rattle.cedar_replies.specs.Replies.{reply_of}
use Rattle.cedar_messages.specs.Telling.{AreBelow}
use Rattle.cedar_messages.proofs.Below.{nothing_added, nothing_below}
use Rattle.cedar_authoring.proofs.running.run_step.Goals as goal

pub returns-then-fine-clause-answered : goal.returns-then-fine-clause-answered
returns-then-fine-clause-answered g c =
    (reply_of c.apply-outcome.result, rw (c.of.ensures.verb, c.of.ensures.text, c.as_str.ensures.value) at c.apply-outcome.ensures.step, c.in_ok-fine.ensures.fine, c.in_ok-fine.ensures.fed)

pub returns-then-fine-clause-told : goal.returns-then-fine-clause-told
returns-then-fine-clause-told g c = nothing_added AreBelow (string_bytes c.args.wrong.now) nothing_below

pub returns-clause-answered : goal.returns-clause-answered
returns-clause-answered g c =
    (reply_of c.apply-outcome.result, rw (c.of.ensures.verb, c.of.ensures.text, c.as_str.ensures.value) at c.apply-outcome.ensures.step, c.in_ok-fine.ensures.fine, c.in_ok-fine.ensures.fed)
