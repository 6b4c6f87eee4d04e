-- Rests on the frames so far, each with its step and its line, which Runs adds to at a frame and ends at the end.
use Rattle.std.proofs.Common.{◌≡◌, ◌≢◌, ◌∙◌, [], inl, inr, refl, arith, rules}
use Rattle.cedar_frames.specs.declared.fault.Fault.TheVariants.{Truncated, TooMany}
use Rattle.cedar_world.specs.RunText.{Start, most_frames}
use Rattle.cedar_session.specs.declared.running.End.TheVariants.{Clean, Fault}
use Rattle.cedar_session.specs.Running.{EndsInput, end_of}
use Rattle.cedar_session.proofs.Runs.{consumes_nothing, appends_nothing, fault_ends, read_failed, ended, cut_at_end, cut_at_answer, one_more}
use Rattle.cedar_session.proofs.running.run.Goals as goal

pub loop-turn-init : goal.loop-turn-init
loop-turn-init g c = record { reader_sound = c.requires.reader; writer_sound = c.requires.writer; sent = λ h. absurd (omega (arith, h)); kept = λ h. h; setting = refl; so_far = ([], [], consumes_nothing _, appends_nothing _, Start _) }

pub loop-turn-preserved : goal.loop-turn-preserved
loop-turn-preserved g c =
    let past = c.loop-turn.invariant.so_far in
    let next = rw c.in-Frame.is at c.in-Ok.ensures.next in
    record {
      reader_sound = search rules;
      writer_sound = c.in-Ok-send_answer.ensures.ok.0;
      sent = λ h. c.in-Ok-send_answer.ensures.sent;
      kept = λ h. c.in-Ok-send_answer.ensures.sent;
      setting = c.answer-outcome.ensures.setting ∙ c.loop-turn.invariant.setting;
      so_far = one_more _ _ _ _ _ _ _ _ c.loop-turn.turn past.0 past.1 past.2 past.3 _ _ past.4 c.loop-turn-test.true next.0 next.2.0 c.in-Frame.verb _ next.1 next.2.1 _ c.loop-turn.invariant.setting
          (c.answer-outcome.ensures.step next.2.0 next.2.2) c.in-Ok-send_answer.ensures.ok.1;
    }

pub returns-in_default-clause-before_failure : goal.returns-in_default-clause-before_failure
returns-in_default-clause-before_failure g c = λ h.
    let past = c.loop-turn.invariant.so_far in
    let part = c.in_default.ensures.err in
    read_failed _ _ _ _ _ _ _ c.loop-turn.turn past.0 past.1 past.2 past.3 _ past.4 part.0 part.1 part.2 (inr c.loop-turn-test.true)

pub returns-in-End-clause-text : goal.returns-in-End-clause-text
returns-in-End-clause-text g c =
    let past = c.loop-turn.invariant.so_far in
    let next = rw c.in-End.is at c.in-Ok.ensures.next in
    ended _ _ _ _ _ _ _ _ c.loop-turn.turn past.0 past.1 past.2 past.3 _ past.4 next.0 next.1 Clean next.2.0 _ (λ e. EndsInput g.R.Read.remaining (end_of e) _) _ next.2.1 c.finish.ensures.ok

pub returns-in-End-clause-cut_short : goal.returns-in-End-clause-cut_short
returns-in-End-clause-cut_short g c =
    let past = c.loop-turn.invariant.so_far in
    let next = rw c.in-End.is at c.in-Ok.ensures.next in
    cut_at_end _ _ _ _ _ _ _ _ c.loop-turn.turn past.0 past.1 past.2 past.3 _ past.4 next.0 next.1 Clean next.2.0 _ _ _ (λ e. EndsInput g.R.Read.remaining e _) next.2.1 c.finish.ensures.err

pub returns-in-Fault-clause-text : goal.returns-in-Fault-clause-text
returns-in-Fault-clause-text g c =
    let past = c.loop-turn.invariant.so_far in
    let next = rw c.in-Fault.is at c.in-Ok.ensures.next in
    ended _ _ _ _ _ _ _ _ c.loop-turn.turn past.0 past.1 past.2 past.3 _ past.4 next.0 next.1 (Fault c.in-Fault.fault) (fault_ends c.in-Fault.fault c.loop-turn.turn next.0 c.loop-turn-test.true next.2.2 next.2.0) _
    (λ e. EndsInput g.R.Read.remaining (end_of e) _) _ next.2.1 c.finish-in-Fault.ensures.ok

pub returns-in-Fault-clause-cut_short : goal.returns-in-Fault-clause-cut_short
returns-in-Fault-clause-cut_short g c =
    let past = c.loop-turn.invariant.so_far in
    let next = rw c.in-Fault.is at c.in-Ok.ensures.next in
    cut_at_end _ _ _ _ _ _ _ _ c.loop-turn.turn past.0 past.1 past.2 past.3 _ past.4 next.0 next.1 (Fault c.in-Fault.fault) (fault_ends c.in-Fault.fault c.loop-turn.turn next.0 c.loop-turn-test.true next.2.2 next.2.0) _
    _ _ (λ e. EndsInput g.R.Read.remaining e _) next.2.1 c.finish-in-Fault.ensures.err

pub returns-in_default-send_answer-clause-cut_short : goal.returns-in_default-send_answer-clause-cut_short
returns-in_default-send_answer-clause-cut_short g c = λ h.
    let past = c.loop-turn.invariant.so_far in
    let next = rw c.in-Frame.is at c.in-Ok.ensures.next in
    let some = c.in_default-send_answer.ensures.err.2 in
    cut_at_answer _ _ _ _ _ _ _ _ c.loop-turn.turn past.0 past.1 past.2 past.3 _ _ past.4 c.loop-turn-test.true next.0 next.2.0 c.in-Frame.verb _ next.1 next.2.1 _ c.loop-turn.invariant.setting
    (c.answer-outcome.ensures.step next.2.0 next.2.2) (λ e. EndsInput g.R.Read.remaining e _) some.0 some.1 some.2 some.3

pub returns-in-Ok-None-clause-text : goal.returns-in-Ok-None-clause-text
returns-in-Ok-None-clause-text g c =
    let past = c.loop-turn.invariant.so_far in
    let end = rw c.in-Ok-None.field-0-is at c.in-Ok-None.ensures.end in
    ended _ _ _ _ _ _ _ _ c.loop-turn.turn past.0 past.1 past.2 past.3 _ past.4 [] end.0 Clean refl _ (λ e. EndsInput g.R.Read.remaining (end_of e) _) _ end.1 c.finish-in-Ok-None.ensures.ok

pub returns-in-Ok-None-clause-cut_short : goal.returns-in-Ok-None-clause-cut_short
returns-in-Ok-None-clause-cut_short g c =
    let past = c.loop-turn.invariant.so_far in
    let end = rw c.in-Ok-None.field-0-is at c.in-Ok-None.ensures.end in
    cut_at_end _ _ _ _ _ _ _ _ c.loop-turn.turn past.0 past.1 past.2 past.3 _ past.4 [] end.0 Clean refl _ _ _ (λ e. EndsInput g.R.Read.remaining e _) end.1 c.finish-in-Ok-None.ensures.err

too_many : TooMany ≢ Truncated
too_many h = cc

pub returns-in-Ok-Some-clause-text : goal.returns-in-Ok-Some-clause-text
returns-in-Ok-Some-clause-text g c =
    let past = c.loop-turn.invariant.so_far in
    let most : c.loop-turn.turn ≡ most_frames = omega arith in
    let byte = rw c.in-Ok-Some.field-0-is at c.in-Ok-Some.ensures.byte in
    ended _ _ _ _ _ _ _ _ c.loop-turn.turn past.0 past.1 past.2 past.3 _ past.4 _ byte (Fault TooMany) (most, refl) _ (λ e. EndsInput g.R.Read.remaining (end_of e) _) _ (λ h. absurd (too_many h)) c.finish-in-Ok-Some.ensures.ok

pub returns-in-Ok-Some-clause-cut_short : goal.returns-in-Ok-Some-clause-cut_short
returns-in-Ok-Some-clause-cut_short g c =
    let past = c.loop-turn.invariant.so_far in
    let most : c.loop-turn.turn ≡ most_frames = omega arith in
    let byte = rw c.in-Ok-Some.field-0-is at c.in-Ok-Some.ensures.byte in
    cut_at_end _ _ _ _ _ _ _ _ c.loop-turn.turn past.0 past.1 past.2 past.3 _ past.4 _ byte (Fault TooMany) (most, refl) _ _ _ (λ e. EndsInput g.R.Read.remaining e _) (λ h. absurd (too_many h)) c.finish-in-Ok-Some.ensures.err

pub returns-in-Err-clause-before_failure : goal.returns-in-Err-clause-before_failure
returns-in-Err-clause-before_failure g c = λ h.
    let past = c.loop-turn.invariant.so_far in
    read_failed _ _ _ _ _ _ _ c.loop-turn.turn past.0 past.1 past.2 past.3 _ past.4 [] c.in-Err.ensures.err (inl (search rules)) (inl refl)
