-- Rests on the frames that stand whole in what was shown, or on the next one.
use Rattle.std.proofs.Common.{◌≡◌, ◌<◌, [], inl, refl, sym, subst, take, false, zero-le, rules, arith}
use Rattle.cedar_frames.specs.Watching.{watched_failed, watched_unsent}
use Rattle.cedar_frames.specs.Reading.{Reads}
use Rattle.cedar_frames.proofs.Bytes.{keeps_consumes, appends_kept}
use Rattle.cedar_session.specs.Running.{Adds}
use Rattle.cedar_session.proofs.Ahead.{turns_from, read_failed_from, write_failed_from, front_of, front_within, either_cut}
use Rattle.cedar_session.proofs.buffered.take_turn.Goals as goal

pub returns-in_default-clause-read_failed : goal.returns-in_default-clause-read_failed
returns-in_default-clause-read_failed g c = λ h.
    record { failed = search rules; tail = []; read = c.in_default.ensures.err; partial = inl (zero-le, refl); unwritten = refl; unchanged = refl }

pub returns-then-count-before-clause-turn : goal.returns-then-count-before-clause-turn
returns-then-count-before-clause-turn g c =
    let none = c.answer_whole-count.ensures.none c.if-count-before.true in
    turns_from _ _ _ _ _ c.args.reader.now _ _ _ _ _ _ _ _ (keeps_consumes _ _ c.in-Ok.ensures.ahead.0) c.answer_whole-count.ensures.setting none.0 none.1 _ c.answer_next.ensures.turn

pub returns-then-count-before-clause-read_failed : goal.returns-then-count-before-clause-read_failed
returns-then-count-before-clause-read_failed g c = λ h.
    let none = c.answer_whole-count.ensures.none c.if-count-before.true in
    read_failed_from _ _ _ _ _ c.args.reader.now _ _ _ _ _ _ _ _ (keeps_consumes _ _ c.in-Ok.ensures.ahead.0) c.answer_whole-count.ensures.setting none.0 none.1 (c.answer_next.ensures.read_failed h)

pub returns-then-count-before-clause-write_failed : goal.returns-then-count-before-clause-write_failed
returns-then-count-before-clause-write_failed g c = λ h.
    let none = c.answer_whole-count.ensures.none c.if-count-before.true in
    write_failed_from _ _ _ _ _ c.args.reader.now _ _ _ _ _ _ _ _ (keeps_consumes _ _ c.in-Ok.ensures.ahead.0) c.answer_whole-count.ensures.setting none.0 none.1 (c.answer_next.ensures.write_failed h)

pub returns-clause-turn : goal.returns-clause-turn
returns-clause-turn g c =
    let sound = c.in-Ok-send.ensures.ok in
    let whole = c.answer_whole-count.ensures.answered sound.0 in
    let taken = front_of _ whole.0 _ _ whole.2 refl in
    record {
      some = omega arith;
      countable = c.answer_whole-count.ensures.bound;
      sent = c.in-Ok-send.ensures.sent;
      bytes = whole.0;
      text = whole.1;
      read = subst (Reads g.R.Read.remaining c.args.reader.now c.consume.new.self) taken (c.consume.ensures.bytes c.args.reader.now (take c.in-Ok.len c.peek_behind.new.scratch) c.in-Ok.ensures.ahead (front_within _ whole.0 _ _ whole.2 refl));
      wrote = appends_kept _ _ _ whole.1 whole.3 c.send.ensures.bytes;
      ran = whole.4;
    }

pub returns-in_default-send-clause-write_failed : goal.returns-in_default-send-clause-write_failed
returns-in_default-send-clause-write_failed g c = λ h.
    let some : c.args.before < c.answer_whole-count.result.count = omega arith in
    let put = Adds g.W.Write.contents c.args.writer.now c.answer_whole-count.new.writer in
    let whole = either_cut (watched_failed c.answer_whole-count.new.writer) _ _ _ _ _ _ _ put c.answer_whole-count.ensures.answered c.answer_whole-count.ensures.cut some in
    let taken = front_of _ whole.0 _ _ whole.2 refl in
    record {
      failed = c.in_default-send.ensures.err.1;
      bytes = whole.0;
      text = whole.1;
      read = subst (Reads g.R.Read.remaining c.args.reader.now c.consume.new.self) taken (c.consume.ensures.bytes c.args.reader.now (take c.in-Ok.len c.peek_behind.new.scratch) c.in-Ok.ensures.ahead (front_within _ whole.0 _ _ whole.2 refl));
      wrote = appends_kept _ _ _ whole.1 whole.3 c.send.ensures.bytes;
      cut = whole.4;
    }

pub answer_next-requires-clause-sent : goal.answer_next-requires-clause-sent
answer_next-requires-clause-sent g c = λ h. subst (λ w. watched_unsent w ≡ false) (sym (c.answer_whole-count.ensures.none c.if-count-before.true).0) (c.requires.sent h)

pub answer_next-requires-clause-writer : goal.answer_next-requires-clause-writer
answer_next-requires-clause-writer g c = subst (λ w. watched_failed w ≡ false) (sym (c.answer_whole-count.ensures.none c.if-count-before.true).0) c.requires.writer
