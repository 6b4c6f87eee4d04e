-- Commands that tell are tells, and so are frames.
use Rattle.std.proofs.Common.{◌≡◌, inl, inr, ℕ, Some, List, [], ◌∷◌, ◌++◌, length, ap, subst}
use Rattle.cedar_language.specs.Uid.{Text}
use Rattle.cedar_world.specs.Answer.{Answer}
use Rattle.cedar_world.specs.World.{World, Asked}
use Rattle.cedar_world.specs.Question.{Portion}
use Rattle.cedar_world.specs.Setting.{Setting}
use Rattle.cedar_world.specs.Commands.{Verb, Ask, Tell, Refusal, Reply, Answered, Refused}
use Rattle.cedar_world.specs.Laws.{TellingAllIsKnowing}
use Rattle.cedar_world.specs.Session.{Command, Answers, no_command, a_command}
use Rattle.cedar_world.specs.Step.{Step}
use Rattle.cedar_world.specs.RunText.{FrameStep, Ran}
use Rattle.cedar_world.specs.RunLaws.{commands_of, replies_of, AnswersFrames, no_frame, a_frame, EndKnown, RunsEndKnown}
use Rattle.cedar_world.specs.Telling.{Tells, all_told, one_refused, one_told}
use Rattle.cedar_world.specs.TellingLaws.{TellEach, ToldCommandsEndKnown}
use Rattle.cedar_world.proofs.RunSession.{in_turn, frame_among, parted}

-- ---- commands

module _ (by : Setting) where
  command_tells : {start end : World} {commands : List Command} {replies : List Reply} → Answers by start commands replies end → (portions : List Portion) → TellEach by commands replies portions → Tells by start portions end
  command_tells no_command [] h = all_told
  command_tells no_command (p ∷ ps) h = absurd h
  command_tells (a_command {verb = verb} {text = text} {reply = Refused r} step more) ps h = one_refused verb text r step (command_tells more ps h)
  command_tells (a_command {verb = Tell} {text = text} {reply = Answered answer} step more) (p ∷ ps) h = one_told text answer h.0 step (command_tells more ps h.1)
  command_tells (a_command {verb = verb} {text = text} {reply = reply} step more) ps h = absurd h

pub told_commands : TellingAllIsKnowing → ToldCommandsEndKnown
told_commands known by before start end text first asked commands replies portions filling request step now answers told fills parts =
    known by before start end text first asked filling request portions step now fills parts (command_tells by answers portions told)

-- ---- frames

module _ (by : Setting) where
  -- a refused frame leaves the world, whatever refused it
  refused_stays : (old new : World) (verb : Verb) (body : Text) (r : Refusal) → FrameStep by old verb body (Refused r) new → new ≡ old
  refused_stays old new verb body r (inl h) = h.2
  refused_stays old new verb body r (inr (inl h)) = h.2
  refused_stays old new verb body r (inr (inr h)) = h.1.1

  -- one that is answered is a step
  answered_steps : (old new : World) (verb : Verb) (body : Text) (answer : Answer) → FrameStep by old verb body (Answered answer) new
      → Step by old verb body (Answered answer) new
  answered_steps old new verb body answer (inl h) = absurd (cc)
  answered_steps old new verb body answer (inr (inl h)) = absurd (cc)
  answered_steps old new verb body answer (inr (inr h)) = h.1

  tells_of : {start : World} (end : World) {commands : List Command} {replies : List Reply} → AnswersFrames by start commands replies end
      → (portions : List Portion) → TellEach by commands replies portions → Tells by start portions end
  tells_of end no_frame [] h = all_told
  tells_of end no_frame (p ∷ ps) h = absurd h
  tells_of end (a_frame {old = old} {mid = mid} {verb = verb} {body = body} {reply = Refused r} step more) ps h =
      subst (λ w. Tells by w ps end) (refused_stays old mid verb body r step) (tells_of end more ps h)
  tells_of end (a_frame {old = old} {mid = mid} {verb = Tell} {body = body} {reply = Answered answer} step more) (p ∷ ps) h =
      one_told body answer h.0 (answered_steps old mid Tell body answer step) (tells_of end more ps h.1)
  tells_of end (a_frame {verb = verb} {body = body} {reply = reply} step more) ps h = absurd h

module _ (known : TellingAllIsKnowing) (by : Setting) where
  end_known : (before start end : World) (text : Text) (first : Answer) (asked : Asked)
      → Step by before Ask text (Answered first) start → start.asked ≡ Some asked
      → (commands : List Command) (replies : List Reply) → AnswersFrames by start commands replies end → EndKnown by before end asked first commands replies
  end_known before start end text first asked step now commands replies answers portions filling request told fills parts =
      known by before start end text first asked filling request portions step now fills parts (tells_of by end answers portions told)

  with_asking : (start end : World) (n : ℕ) (bytes said : List ℕ) (run : Ran by start n bytes said end)
      → (text : Text) (first : Answer) (earlier later : List Command) (told left : List Reply) → length earlier ≡ length told
      → commands_of run ≡ earlier ++ (Ask, text) ∷ later → replies_of run ≡ told ++ Answered first ∷ left
      → (before after : World) × (asked : Asked) × AnswersFrames by start earlier told before
      × Step by before Ask text (Answered first) after × (after.asked ≡ Some asked)
      × EndKnown by before end asked first later left
  with_asking start end n bytes said run text first earlier later told left long cs rs =
      let there = parted by start end Ask text (Answered first) (commands_of run) earlier later (replies_of run) told left cs rs (in_turn by run) in
      let (before, after, fore, step, back) = frame_among by end Ask text (Answered first) later left earlier told long start there in
      let asks = answered_steps by before after Ask text first step in
      let now = ap (λ (w : World). w.asked) asks.1.4.1 in
      (before, after, _, fore, asks, now, end_known before after end text first _ asks now later left back)

pub runs_end_known : TellingAllIsKnowing → RunsEndKnown
runs_end_known known = record {
  after_asking = λ by before start end text first asked step now n bytes said run.
      end_known known by before start end text first asked step now (commands_of run) (replies_of run) (in_turn by run);
  with_asking = λ by start end n bytes said run text first earlier later told left long cs rs.
      with_asking known by start end n bytes said run text first earlier later told left long cs rs;
}
