-- Rests on the frames so far, each with its step and its line, to which a turn adds some, or which it ends.
use Rattle.std.proofs.Common.{◌≡◌, ◌≢◌, ◌∙◌, [], inl, refl, sym, subst, false, arith, rules}
use Rattle.cedar_frames.specs.declared.fault.Fault.TheVariants.{Truncated, TooMany}
use Rattle.cedar_frames.specs.Watching.{watched_unsent}
use Rattle.cedar_world.specs.RunText.{Start, most_frames}
use Rattle.cedar_session.specs.declared.running.End.TheVariants.{Clean, Fault}
use Rattle.cedar_session.specs.Running.{EndsInput, end_of}
use Rattle.cedar_session.proofs.Runs.{consumes_nothing, appends_nothing, read_failed, ended, cut_at_end}
use Rattle.cedar_session.proofs.Ahead.{goes_on, stays, fails_to_read, fails_to_write, same_error}
use Rattle.cedar_session.proofs.buffered.run_buffered.Goals as goal

pub loop-count-init : goal.loop-count-init
loop-count-init g c = record {
  countable = omega arith;
  reader_sound = c.requires.reader;
  writer_sound = c.requires.writer;
  sent = λ h. absurd (omega (arith, h));
  kept = λ h. h;
  setting = refl;
  so_far = ([], [], consumes_nothing _, appends_nothing _, Start _);
}

pub loop-count-preserved : goal.loop-count-preserved
loop-count-preserved g c =
    let turn = rw c.in-Ok-Answered.field-0-is at c.in-Ok-Answered.ensures.turn in
    let sound = c.in-Ok-Answered.ensures.sound in
    record {
      countable = turn.countable;
      reader_sound = sound.0;
      writer_sound = sound.1;
      sent = λ h. turn.sent;
      kept = λ h. turn.sent;
      setting = c.in-Ok-Answered.ensures.setting ∙ c.loop-count.invariant.setting;
      so_far = goes_on _ _ _ _ _ c.args.reader.now _ _ c.args.writer.now _ _ _ _ _ c.loop-count.invariant.setting c.loop-count.invariant.so_far _ turn;
    }

pub returns-in-Ok-Ended-clause-text : goal.returns-in-Ok-Ended-clause-text
returns-in-Ok-Ended-clause-text g c =
    let here = rw c.in-Ok-Ended.field-0-is at c.in-Ok-Ended.ensures.turn in
    let past = stays _ _ _ _ _ c.args.reader.now _ _ c.args.writer.now _ _ _ _ _ c.loop-count.invariant.setting c.loop-count.invariant.so_far _ here in
    ended _ _ _ _ _ _ _ _ c.loop-count.count past.0 past.1 past.2 past.3 _ past.4 here.tail here.read c.in-Ok-Ended.end here.ends _ (λ e. EndsInput g.R.Read.remaining (end_of e) _) _ here.input c.finish.ensures.ok

pub returns-in-Ok-Ended-clause-cut_short : goal.returns-in-Ok-Ended-clause-cut_short
returns-in-Ok-Ended-clause-cut_short g c =
    let here = rw c.in-Ok-Ended.field-0-is at c.in-Ok-Ended.ensures.turn in
    let past = stays _ _ _ _ _ c.args.reader.now _ _ c.args.writer.now _ _ _ _ _ c.loop-count.invariant.setting c.loop-count.invariant.so_far _ here in
    cut_at_end _ _ _ _ _ _ _ _ c.loop-count.count past.0 past.1 past.2 past.3 _ past.4 here.tail here.read c.in-Ok-Ended.end here.ends _ _ _ (λ e. EndsInput g.R.Read.remaining e _) here.input c.finish.ensures.err

pub returns-in-Err-clause-before_failure : goal.returns-in-Err-clause-before_failure
returns-in-Err-clause-before_failure g c = λ h.
    fails_to_read _ _ _ _ _ c.args.reader.now _ _ c.args.writer.now _ _ _ _ _ c.loop-count.invariant.setting c.loop-count.invariant.so_far c.loop-count-test.true (c.in-Err.ensures.read_failed (same_error _ _ h))

pub returns-in-Err-clause-cut_short : goal.returns-in-Err-clause-cut_short
returns-in-Err-clause-cut_short g c = λ h.
    fails_to_write _ _ _ _ _ c.args.reader.now _ _ c.args.writer.now _ _ _ _ _ c.loop-count.invariant.setting c.loop-count.invariant.so_far (c.in-Err.ensures.write_failed (same_error _ _ h))

pub returns-in-Ok-None-clause-text : goal.returns-in-Ok-None-clause-text
returns-in-Ok-None-clause-text g c =
    let past = c.loop-count.invariant.so_far in
    let end = rw c.in-Ok-None.field-0-is at c.in-Ok-None.ensures.end in
    ended _ _ _ _ _ _ _ _ c.loop-count.count past.0 past.1 past.2 past.3 _ past.4 [] end.0 Clean refl _ (λ e. EndsInput g.R.Read.remaining (end_of e) _) _ end.1 c.finish-in-Ok-None.ensures.ok

pub returns-in-Ok-None-clause-cut_short : goal.returns-in-Ok-None-clause-cut_short
returns-in-Ok-None-clause-cut_short g c =
    let past = c.loop-count.invariant.so_far in
    let end = rw c.in-Ok-None.field-0-is at c.in-Ok-None.ensures.end in
    cut_at_end _ _ _ _ _ _ _ _ c.loop-count.count past.0 past.1 past.2 past.3 _ past.4 [] end.0 Clean refl _ _ _ (λ e. EndsInput g.R.Read.remaining e _) end.1 c.finish-in-Ok-None.ensures.err

too_many : TooMany ≢ Truncated
too_many h = cc

pub returns-in-Ok-Some-clause-text : goal.returns-in-Ok-Some-clause-text
returns-in-Ok-Some-clause-text g c =
    let past = c.loop-count.invariant.so_far in
    let within = c.loop-count.invariant.countable in
    let most : c.loop-count.count ≡ most_frames = omega arith in
    let byte = rw c.in-Ok-Some.field-0-is at c.in-Ok-Some.ensures.byte in
    ended _ _ _ _ _ _ _ _ c.loop-count.count past.0 past.1 past.2 past.3 _ past.4 _ byte (Fault TooMany) (most, refl) _ (λ e. EndsInput g.R.Read.remaining (end_of e) _) _ (λ h. absurd (too_many h)) c.finish-in-Ok-Some.ensures.ok

pub returns-in-Ok-Some-clause-cut_short : goal.returns-in-Ok-Some-clause-cut_short
returns-in-Ok-Some-clause-cut_short g c =
    let past = c.loop-count.invariant.so_far in
    let within = c.loop-count.invariant.countable in
    let most : c.loop-count.count ≡ most_frames = omega arith in
    let byte = rw c.in-Ok-Some.field-0-is at c.in-Ok-Some.ensures.byte in
    cut_at_end _ _ _ _ _ _ _ _ c.loop-count.count past.0 past.1 past.2 past.3 _ past.4 _ byte (Fault TooMany) (most, refl) _ _ _ (λ e. EndsInput g.R.Read.remaining e _) (λ h. absurd (too_many h)) c.finish-in-Ok-Some.ensures.err

pub returns-in-Err-byte_behind-clause-before_failure : goal.returns-in-Err-byte_behind-clause-before_failure
returns-in-Err-byte_behind-clause-before_failure g c = λ h.
    let past = c.loop-count.invariant.so_far in
    read_failed _ _ _ _ _ _ _ c.loop-count.count past.0 past.1 past.2 past.3 _ past.4 [] c.in-Err-byte_behind.ensures.err (inl (search rules)) (inl refl)

pub returns-in-Err-clause-read_failed : goal.returns-in-Err-clause-read_failed
returns-in-Err-clause-read_failed g c = λ h. (c.in-Err.ensures.read_failed (same_error _ _ h)).failed

pub returns-in-Err-clause-write_failed : goal.returns-in-Err-clause-write_failed
returns-in-Err-clause-write_failed g c = λ h. (c.in-Err.ensures.write_failed (same_error _ _ h)).failed

pub returns-in-Err-clause-sent_before_failure : goal.returns-in-Err-clause-sent_before_failure
returns-in-Err-clause-sent_before_failure g c = λ h k. subst (λ w. watched_unsent w ≡ false) (sym (c.in-Err.ensures.read_failed (same_error _ _ h)).unwritten) (c.loop-count.invariant.kept k)
