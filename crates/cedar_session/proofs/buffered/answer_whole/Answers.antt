-- Rests on the frames so far, as a run's does, but from the middle of a run on.
use Rattle.std.proofs.Common.{List, ◌≡◌, ◌++◌, ◌∙◌, [], inr, refl, sym, ap, subst, append_assoc, length, length-append, rules, arith, true≢false}
use Rattle.cedar_frames.proofs.Bytes.{appends_more, appends_nothing, puts_all, puts_some, puts_in_time, sound_in_time}
use Rattle.cedar_world.specs.RunText.{most_frames}
use Rattle.cedar_world.specs.Lines.{line_of}
use Rattle.cedar_replies.specs.Replies.{reply_of}
use Rattle.cedar_session.specs.Sessions.{world_of, setting_of}
use Rattle.cedar_session.specs.Ahead.{RunsOn}
use Rattle.cedar_session.proofs.Ahead.{runs_nothing, runs_more, cuts_more}
use Rattle.cedar_session.proofs.buffered.answer_whole.Goals as goal

-- what stands behind one frame more
further : {X : Type 0} (ahead bytes rest frame behind : List X) → ahead ≡ bytes ++ rest → rest ≡ frame ++ behind → ahead ≡ (bytes ++ frame) ++ behind
further ahead bytes rest frame behind is splits = is ∙ ap (λ l. bytes ++ l) splits ∙ sym (append_assoc bytes frame behind)

pub loop-count-init : goal.loop-count-init
loop-count-init g c = record { sound = c.requires; setting = refl; within = search rules; none = λ _. (refl, refl); so_far = ([], [], refl, appends_nothing _, runs_nothing _ _ _) }

pub loop-count-preserved : goal.loop-count-preserved
loop-count-preserved g c =
    let past = c.loop-count.invariant.so_far in
    let found = c.in-Some.ensures.found in
    let sound = sym c.failed.ensures ∙ c.if-failed.false in
    record {
      sound = sound;
      setting = c.answer_bytes-outcome.ensures.setting ∙ c.loop-count.invariant.setting;
      within = omega (arith, c.loop-count.invariant.within, ap length found.2, length-append found.0 c.in-Some.whole.rest.now);
      none = λ e. absurd (omega (arith, e));
      so_far = (
        past.0 ++ found.0,
        past.1 ++ line_of (reply_of c.answer_bytes-outcome.result),
        further _ past.0 _ found.0 _ past.2 found.2,
        appends_more _ _ _ past.1 _ past.3 (puts_all _ _ _ _ _ c.put_line.ensures c.loop-count.invariant.sound sound),
        runs_more _ _ _ past.0 past.1 _ (world_of c.loop-count.session) (world_of c.answer_bytes-outcome.new.session) past.4 c.loop-count-test.true found.0 _ _ (reply_of c.answer_bytes-outcome.result) found.1
            (setting_of c.loop-count.session) c.loop-count.invariant.setting (inr c.answer_bytes-outcome.ensures.step),
      );
    }

pub returns-then-failed-clause-cut : goal.returns-then-failed-clause-cut
returns-then-failed-clause-cut g c = λ h.
    let past = c.loop-count.invariant.so_far in
    let found = c.in-Some.ensures.found in
    let some = puts_some _ _ _ _ _ c.put_line.ensures c.loop-count.invariant.sound in (
      past.0 ++ found.0,
      past.1 ++ some.0,
      further _ past.0 _ found.0 _ past.2 found.2,
      appends_more _ _ _ past.1 _ past.3 some.3,
      cuts_more _ _ _ past.0 past.1 _ (world_of c.loop-count.session) (world_of c.answer_bytes-outcome.new.session) past.4 c.loop-count-test.true found.0 _ _ (reply_of c.answer_bytes-outcome.result) found.1
          (setting_of c.loop-count.session) c.loop-count.invariant.setting (inr c.answer_bytes-outcome.ensures.step) some.0 some.1 some.2,
    )

pub returns-then-failed-clause-answered : goal.returns-then-failed-clause-answered
returns-then-failed-clause-answered g c = λ h. absurd (true≢false (sym c.if-failed.true ∙ c.failed.ensures ∙ h))

pub returns-then-failed-clause-none : goal.returns-then-failed-clause-none
returns-then-failed-clause-none g c = λ h. absurd (omega (arith, h))

pub returns-then-failed-clause-within : goal.returns-then-failed-clause-within
returns-then-failed-clause-within g c =
    let found = c.in-Some.ensures.found in omega (arith, c.loop-count.invariant.within, ap length found.2, length-append found.0 c.in-Some.whole.rest.now)

pub returns-then-failed-clause-late : goal.returns-then-failed-clause-late
returns-then-failed-clause-late g c = puts_in_time _ _ _ _ _ c.put_line.ensures ∙ sound_in_time _ c.loop-count.invariant.sound

pub returns-in_default-clause-answered : goal.returns-in_default-clause-answered
returns-in_default-clause-answered g c = λ _. c.loop-count.invariant.so_far

pub returns-in_default-clause-cut : goal.returns-in_default-clause-cut
returns-in_default-clause-cut g c = λ h. absurd (true≢false (sym h ∙ c.loop-count.invariant.sound))

pub returns-in_default-clause-late : goal.returns-in_default-clause-late
returns-in_default-clause-late g c = sound_in_time _ c.loop-count.invariant.sound

pub returns-clause-answered : goal.returns-clause-answered
returns-clause-answered g c = λ _.
    let past = c.loop-count.invariant.so_far in
    let most : c.loop-count.count ≡ most_frames = omega arith in
    (past.0, past.1, past.2, past.3, subst (λ n. RunsOn (setting_of c.args.session.now) c.args.before (world_of c.args.session.now) past.0 past.1 n (world_of c.loop-count.session)) most past.4)

pub returns-clause-cut : goal.returns-clause-cut
returns-clause-cut g c = λ h. absurd (true≢false (sym h ∙ c.loop-count.invariant.sound))

pub returns-clause-none : goal.returns-clause-none
returns-clause-none g c = λ h. let most : c.loop-count.count ≡ most_frames = omega arith in c.loop-count.invariant.none (most ∙ h)

pub returns-clause-late : goal.returns-clause-late
returns-clause-late g c = sound_in_time _ c.loop-count.invariant.sound
