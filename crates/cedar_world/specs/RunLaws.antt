-- What a run answers, and what it reads: whatever was answered before it, and however the reader cuts its input.
use Rattle.std.specs.Prelude.{◌≡◌, ◌⊎◌, ℕ, ◌+◌, Some, None, List, [], ◌∷◌, ◌++◌, length}
use Rattle.std.specs.FinMap as map
use Rattle.cedar_language.specs.Uid.{Text}
use Rattle.cedar_language.specs.Authorization.{Known}
use Rattle.cedar_frames.specs.declared.fault.Fault.TheVariants.{Truncated}
use Rattle.cedar_frames.specs.Frames.{AreFrames}
use Rattle.cedar_world.specs.Answer.{Answer}
use Rattle.cedar_world.specs.World.{World, Asked}
use Rattle.cedar_world.specs.Asking.{Told}
use Rattle.cedar_world.specs.Question.{Portion, ArePortions}
use Rattle.cedar_world.specs.Setting.{Setting}
use Rattle.cedar_world.specs.Fillings.{IsFilling}
use Rattle.cedar_world.specs.Commands.{Verb, Ask, Reply, Answered}
use Rattle.cedar_world.specs.Step.{Step}
use Rattle.cedar_world.specs.Lines.{lines_of}
use Rattle.cedar_world.specs.Lookups.{ClausesHoldNoSlot, NamesFoundErrors, NamesOrdinaryErrors}
use Rattle.cedar_world.specs.Telling.{EndsKnown}
use Rattle.cedar_world.specs.TellingLaws.{TellEach}
use Rattle.cedar_world.specs.Session.{Command, IsReached, AreAnsweredByTheRules}
use Rattle.cedar_world.specs.RunText.{End, Clean, Faulty, FrameStep, Ran, Start, Turn, RunText, TextBeforeFailure, TextCutShort}

-- ---- a run as a session

module _ {by : Setting} where
  -- the commands in a run's frames
  abbrev pub commands_of : {start new : World} {n : ℕ} {bytes text : List ℕ} → Ran by start n bytes text new → List Command
  commands_of (Start world) = []
  commands_of (Turn {body = body} {verb = verb} ran below frame step) = commands_of ran ++ (verb, body) ∷ []

  -- and what they were answered
  abbrev pub replies_of : {start new : World} {n : ℕ} {bytes text : List ℕ} → Ran by start n bytes text new → List Reply
  replies_of (Start world) = []
  replies_of (Turn {reply = reply} ran below frame step) = replies_of ran ++ reply ∷ []

module _ (by : Setting) where
  -- The commands in frames have these replies, each in the world that the one before it left.
  pub data AnswersFrames : World → List Command → List Reply → World → Type 0 where
    no_frame : {world : World} → AnswersFrames world [] [] world
    a_frame : {old mid new : World} {verb : Verb} {body : Text} {reply : Reply} {commands : List Command} {replies : List Reply}
        → FrameStep by old verb body reply mid → AnswersFrames mid commands replies new → AnswersFrames old ((verb, body) ∷ commands) (reply ∷ replies) new

  -- A session in which these commands were answered before goes on by those in frames.
  pub record GoesOn (before : List Command) (said : List Reply) (start : World) (commands : List Command) (replies : List Reply) (world : World) : Type 0 where
    pub in_turn : AnswersFrames start commands replies world
    -- after all of them all is as after any list of commands
    pub rules : AreAnsweredByTheRules by (before ++ commands) (said ++ replies) world
    -- and so it is after each beginning of them
    pub after_some : (some rest : List Command) → commands ≡ some ++ rest
        → (told left : List Reply) × (mid : World) × (replies ≡ told ++ left) × AnswersFrames start some told mid × AnswersFrames mid rest left world
        × AreAnsweredByTheRules by (before ++ some) (said ++ told) mid
    -- no answer names a failed look-up of a function, nor, where a question is asked or no clause held has a slot, a slot that isn't linked
    pub errors : (some rest : List Command) (told left : List Reply) (verb : Verb) (text : Text) (answer : Answer) → length some ≡ length told
        → commands ≡ some ++ (verb, text) ∷ rest → replies ≡ told ++ Answered answer ∷ left
        → (old : World) × AnswersFrames start some told old × NamesFoundErrors answer
        × ((verb ≡ Ask) ⊎ ClausesHoldNoSlot old.policies → NamesOrdinaryErrors answer)

-- A run in a world that commands led to goes on with their session: its frames are commands, its text is a line for each of their replies, each
-- of which a frame may be answered in the world that those before it led to.
abbrev pub RunsAreAnsweredByTheRules : Type 0
RunsAreAnsweredByTheRules =
    (by : Setting) (before : List Command) (said : List Reply) (start : World) → IsReached by before said start
    → (n : ℕ) (bytes text : List ℕ) (world : World) (run : Ran by start n bytes text world)
    → AreFrames (commands_of run) bytes × (length (commands_of run) ≡ n) × (text ≡ lines_of (replies_of run))
    × GoesOn by before said start (commands_of run) (replies_of run) world

-- ---- telling in a run

-- once these commands are told as these replies say, what is known of the question ends with what is answered where all is known from the first
abbrev pub EndKnown : Setting → World → World → Asked → Answer → List Command → List Reply → Type 0
EndKnown by before end asked first commands replies =
    (portions : List Portion) (filling : Told) (request : Known) → TellEach by commands replies portions
    → IsFilling by asked.question filling request → ArePortions map.empty portions filling
    → EndsKnown by before end asked.question filling request first

-- Frames that are refused or tell all that is unknown, in any portions and order, end with what is answered where all is known from the first,
-- kinds of errors aside.
pub record RunsEndKnown : Type 0 where
  -- a run after an accepted `ask`
  pub after_asking : (by : Setting) (before start end : World) (text : Text) (first : Answer) (asked : Asked)
      → Step by before Ask text (Answered first) start → start.asked ≡ Some asked
      → (n : ℕ) (bytes said : List ℕ) (run : Ran by start n bytes said end)
      → EndKnown by before end asked first (commands_of run) (replies_of run)
  -- a run in which the `ask` stands: these frames before it, and those behind it
  pub with_asking : (by : Setting) (start end : World) (n : ℕ) (bytes said : List ℕ) (run : Ran by start n bytes said end)
      → (text : Text) (first : Answer) (earlier later : List Command) (told left : List Reply) → length earlier ≡ length told
      → commands_of run ≡ earlier ++ (Ask, text) ∷ later → replies_of run ≡ told ++ Answered first ∷ left
      → (before after : World) × (asked : Asked) × AnswersFrames by start earlier told before
      × Step by before Ask text (Answered first) after × (after.asked ≡ Some asked)
      × EndKnown by before end asked first later left

-- ---- what a run reads

-- what may be left to read: nothing where the input's own end ended the run
abbrev pub Leaves : End → List ℕ → Type 0
Leaves Clean left = left ≡ []
Leaves (Faulty Truncated) left = left ≡ []
Leaves end left = Unit {0}

-- two runs over one input read the same frames, and end in the same way at the same place
abbrev pub RunsReadTheSame : Type 0
RunsReadTheSame =
    (by : Setting) (bytes text left bytes' text' left' : List ℕ) (start new start' new' : World) (end end' : End)
    (run : RunText by bytes start text end new) (other : RunText by bytes' start' text' end' new')
    → Leaves end left → Leaves end' left' → bytes ++ left ≡ bytes' ++ left'
    → (run.frames ≡ other.frames) × (run.count ≡ other.count) × (run.tail ≡ other.tail) × (end ≡ end')

-- all these frames begin with those that were read, and others follow them
abbrev pub BeginWith : List ℕ → ℕ → List ℕ → ℕ → Type 0
BeginWith all most read count = (others : List Command) × (frames : List ℕ) × AreFrames others frames × (all ≡ read ++ frames) × (most ≡ count + length others)

-- A run that a failed device cut short read a beginning of the frames that a run reads which ends, over an input that begins with the same bytes.
-- Where its writer failed at the answer to a frame, that is the next one of them.
pub record CutRunsBeginAlike : Type 0 where
  pub by_reader : (by : Setting) (bytes text left bytes' text' left' : List ℕ) (start new start' new' : World) (end : End)
      (cut : TextBeforeFailure by bytes start text new) (whole : RunText by bytes' start' text' end new')
      → Leaves end left' → bytes ++ left ≡ bytes' ++ left' → BeginWith whole.frames whole.count cut.frames cut.count
  pub by_writer : (by : Setting) (bytes text left bytes' text' left' : List ℕ) (start new start' new' : World) (end : End)
      (cut : TextCutShort by bytes start text new) (whole : RunText by bytes' start' text' end new')
      → Leaves end left' → bytes ++ left ≡ bytes' ++ left' → BeginWith whole.frames whole.count cut.frames cut.count
      × (cut.ending ≡ None → BeginWith whole.frames whole.count (cut.frames ++ cut.tail) (cut.count + 1))
