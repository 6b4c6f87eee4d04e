-- Rests on what next_frame takes, which is answered, or ends the run.
use Rattle.std.proofs.Common.{refl, rules, arith}
use Rattle.cedar_world.specs.Lines.{line_of}
use Rattle.cedar_replies.specs.Replies.{reply_of}
use Rattle.cedar_session.proofs.Runs.{fault_ends}
use Rattle.cedar_session.proofs.Ahead.{runs_one, cuts_one}
use Rattle.cedar_session.proofs.buffered.answer_next.Goals as goal

pub returns-in_default-clause-read_failed : goal.returns-in_default-clause-read_failed
returns-in_default-clause-read_failed g c = λ h.
    let part = c.in_default.ensures.err in
    record { failed = search rules; tail = part.0; read = part.1; partial = part.2; unwritten = refl; unchanged = refl }

pub returns-in-End-clause-turn : goal.returns-in-End-clause-turn
returns-in-End-clause-turn g c =
    let next = rw c.in-End.is at c.in-Ok.ensures.next in
    record { tail = next.0; read = next.1; ends = next.2.0; input = next.2.1; unwritten = refl; unchanged = refl }

pub returns-in-Fault-clause-turn : goal.returns-in-Fault-clause-turn
returns-in-Fault-clause-turn g c =
    let next = rw c.in-Fault.is at c.in-Ok.ensures.next in
    record { tail = next.0; read = next.1; ends = fault_ends c.in-Fault.fault c.args.before next.0 c.requires.countable next.2.2 next.2.0; input = next.2.1; unwritten = refl; unchanged = refl }

pub returns-in-Ok-send_answer-clause-turn : goal.returns-in-Ok-send_answer-clause-turn
returns-in-Ok-send_answer-clause-turn g c =
    let next = rw c.in-Frame.is at c.in-Ok.ensures.next in
    record {
      some = omega arith;
      countable = omega (arith, c.requires.countable);
      sent = c.in-Ok-send_answer.ensures.sent;
      bytes = next.0;
      text = line_of (reply_of c.answer-outcome.result);
      read = next.1;
      wrote = c.in-Ok-send_answer.ensures.ok.1;
      ran = runs_one _ _ _ _ c.requires.countable next.0 next.2.0 c.in-Frame.verb _ next.2.1 (c.answer-outcome.ensures.step next.2.0 next.2.2);
    }

pub returns-in_default-send_answer-clause-write_failed : goal.returns-in_default-send_answer-clause-write_failed
returns-in_default-send_answer-clause-write_failed g c = λ h.
    let next = rw c.in-Frame.is at c.in-Ok.ensures.next in
    let err = c.in_default-send_answer.ensures.err in
    let some = err.2 in
    record {
      failed = err.1;
      bytes = next.0;
      text = some.0;
      read = next.1;
      wrote = some.3;
      cut = cuts_one _ _ _ _ c.requires.countable next.0 next.2.0 c.in-Frame.verb _ next.2.1 (c.answer-outcome.ensures.step next.2.0 next.2.2) some.0 some.1 some.2;
    }
