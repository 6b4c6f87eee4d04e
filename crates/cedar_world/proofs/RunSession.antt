-- A run goes on with a session.
use Rattle.std.proofs.Common.{◌≡◌, ◌⊎◌, inl, inr, ℕ, ◌+◌, List, [], ◌∷◌, ◌++◌, length, append_assoc, append-nil, length-append, refl, sym, ◌∙◌, ap, subst, arith}
use Rattle.cedar_language.specs.Uid.{Text}
use Rattle.cedar_frames.specs.Frames.{AreFrames}
use Rattle.cedar_world.specs.World.{World}
use Rattle.cedar_world.specs.Setting.{Setting}
use Rattle.cedar_world.specs.Answer.{Answer}
use Rattle.cedar_world.specs.Commands.{Verb, Ask, Reply, Answered, NotUtf8, Memory}
use Rattle.cedar_world.specs.Lines.{line_of, lines_of}
use Rattle.cedar_world.specs.Lookups.{ClausesHoldNoSlot, NamesFoundErrors, NamesOrdinaryErrors}
use Rattle.cedar_world.specs.OrdinaryReplies.{AnswersToldOrdinarily, RepliesOrdinarily}
use Rattle.cedar_world.specs.Session.{Command, Edited, EditsPolicies, EditsEntities, IsReached}
use Rattle.cedar_world.specs.RunText.{FrameStep, Ran, Start, Turn}
use Rattle.cedar_world.specs.RunLaws.{commands_of, replies_of, AnswersFrames, no_frame, a_frame, GoesOn, RunsAreAnsweredByTheRules}
use Rattle.cedar_world.proofs.Session.{Keeps, Kept, unmoved, stepped, none_kept, one_kept, from_reached}
use Rattle.cedar_world.proofs.Runs.{frames_more}
use Rattle.cedar_world.proofs.OrdinaryAnswers.{ordinary_found}

-- ---- one frame

-- a frame that no command came of leaves the world
frame_keeps : (by : Setting) (old new : World) (verb : Verb) (body : Text) (reply : Reply) → FrameStep by old verb body reply new → Keeps by old new verb body reply
frame_keeps by old new verb body reply (inl h) = subst (Keeps by old new verb body) (sym h.1) (unmoved by old new verb body Memory h.2)
frame_keeps by old new verb body reply (inr (inl h)) = subst (Keeps by old new verb body) (sym h.1) (unmoved by old new verb body NotUtf8 h.2)
frame_keeps by old new verb body reply (inr (inr h)) = stepped by old new verb body reply h.1

-- ---- frames, one after the other

module _ (by : Setting) where
  kept : {start end : World} {commands : List Command} {replies : List Reply} → AnswersFrames by start commands replies end → Kept by start end commands replies
  kept no_frame = none_kept by _
  kept (a_frame {old = old} {mid = mid} {verb = verb} {body = body} {reply = reply} step more) = one_kept by old mid _ verb body reply _ _ (frame_keeps by old mid verb body reply step) (kept more)

  frames_on : {start mid new : World} {commands : List Command} {replies : List Reply} (verb : Verb) (body : Text) (reply : Reply)
      → AnswersFrames by start commands replies mid → FrameStep by mid verb body reply new
      → AnswersFrames by start (commands ++ (verb, body) ∷ []) (replies ++ reply ∷ []) new
  frames_on verb body reply no_frame step = a_frame step no_frame
  frames_on verb body reply (a_frame first more) step = a_frame first (frames_on verb body reply more step)

  pub frames_in_parts : (start end : World) (before after : List Command) (replies : List Reply) → AnswersFrames by start (before ++ after) replies end
      → (earlier later : List Reply) × (mid : World) × (replies ≡ earlier ++ later) × AnswersFrames by start before earlier mid
      × AnswersFrames by mid after later end
  frames_in_parts start end [] after replies answers = ([], replies, start, refl, no_frame, answers)
  frames_in_parts start end (c ∷ before) after [] answers = elim answers [ ]
  frames_in_parts start end (c ∷ before) after (reply ∷ replies) (a_frame {mid = mid} step more) =
      let rest = frames_in_parts mid end before after replies more in
      (reply ∷ rest.0, rest.1, rest.2, ap (λ rs. reply ∷ rs) rest.3, a_frame step rest.4, rest.5)

  -- a frame among others, in the world that those before it left
  pub frame_among : (end : World) (verb : Verb) (body : Text) (reply : Reply) (after : List Command) (left : List Reply)
      → (before : List Command) (told : List Reply) → length before ≡ length told → (start : World)
      → AnswersFrames by start (before ++ (verb, body) ∷ after) (told ++ reply ∷ left) end
      → (old new : World) × AnswersFrames by start before told old × FrameStep by old verb body reply new × AnswersFrames by new after left end
  frame_among end verb body reply after left [] [] e start (a_frame {mid = mid} step more) = (start, mid, no_frame, step, more)
  frame_among end verb body reply after left (c ∷ cs) (r ∷ rs) e start (a_frame {mid = mid} step more) =
      let rest = frame_among end verb body reply after left cs rs (omega (arith, e)) mid more in
      (rest.0, rest.1, a_frame step rest.2, rest.3, rest.4)
  frame_among end verb body reply after left _ _ e start answers = absurd (omega (arith, e))

  pub parted : (start end : World) (verb : Verb) (body : Text) (reply : Reply) (commands before after : List Command) (replies told left : List Reply)
      → commands ≡ before ++ (verb, body) ∷ after → replies ≡ told ++ reply ∷ left → AnswersFrames by start commands replies end
      → AnswersFrames by start (before ++ (verb, body) ∷ after) (told ++ reply ∷ left) end
  parted start end verb body reply commands before after replies told left cs rs answers =
      subst (λ l. AnswersFrames by start (before ++ (verb, body) ∷ after) l end) rs (subst (λ l. AnswersFrames by start l replies end) cs answers)

-- ---- the errors of a reply

module _ (by : Setting) (old : World) (commands : List Command) (replies : List Reply) (reached : IsReached by commands replies old) where
  told_errors : (verb : Verb) (answer : Answer) → AnswersToldOrdinarily by old answer → (verb ≡ Ask → ⊥)
      → (verb ≡ Ask) ⊎ ClausesHoldNoSlot old.policies → NamesOrdinaryErrors answer
  told_errors verb answer o other (inl e) = absurd (other e)
  told_errors verb answer o other (inr free) = o.without_slots free commands replies reached

  errors : (verb : Verb) (answer : Answer) → RepliesOrdinarily by old (Answered answer) verb
      → NamesFoundErrors answer × ((verb ≡ Ask) ⊎ ClausesHoldNoSlot old.policies → NamesOrdinaryErrors answer)
  errors Ask answer o = ((λ id k h. ordinary_found k (o commands replies reached id k h)), (λ e. o commands replies reached))
  errors verb answer o = (o.finds commands replies reached, told_errors verb answer o (λ e. cc))

  frame_errors : (new : World) (verb : Verb) (body : Text) (answer : Answer) → FrameStep by old verb body (Answered answer) new
      → NamesFoundErrors answer × ((verb ≡ Ask) ⊎ ClausesHoldNoSlot old.policies → NamesOrdinaryErrors answer)
  frame_errors new verb body answer (inl h) = absurd (cc)
  frame_errors new verb body answer (inr (inl h)) = absurd (cc)
  frame_errors new verb body answer (inr (inr h)) = errors verb answer h.2

-- ---- behind what was answered before

edited_on : {X : Type 0} (Edits : X → Verb → Text → Reply → X → Type 0) (old mid new : X) (commands others : List Command) (replies more : List Reply)
    → Edited Edits old commands replies mid → Edited Edits mid others more new → Edited Edits old (commands ++ others) (replies ++ more) new
edited_on Edits old mid new [] others [] more done edit = subst (λ x. Edited Edits x others more new) done edit
edited_on Edits old mid new (c ∷ cs) others (r ∷ rs) more done edit = (done.0, done.1, edited_on Edits done.0 mid new cs others rs more done.2 edit)
edited_on Edits old mid new _ others _ more done edit = absurd done

module _ (by : Setting) (before : List Command) (said : List Reply) (start : World) (reached : IsReached by before said start) where
  pub reached_on : (commands : List Command) (replies : List Reply) (world : World) → AnswersFrames by start commands replies world
      → IsReached by (before ++ commands) (said ++ replies) world
  reached_on commands replies world answers =
      let more = kept by answers in
      record {
        policies = edited_on (EditsPolicies by) _ start.policies world.policies before commands said replies reached.policies more.policies;
        entities = edited_on (EditsEntities by) _ start.entities world.entities before commands said replies reached.entities more.entities;
        links = more.links reached.links;
        no_cycle = more.no_cycle reached.no_cycle;
      }

  goes_on : (commands : List Command) (replies : List Reply) (world : World) → AnswersFrames by start commands replies world
      → GoesOn by before said start commands replies world
  goes_on commands replies world answers = record {
    in_turn = answers;
    rules = from_reached by (before ++ commands) (said ++ replies) world (reached_on commands replies world answers);
    after_some = λ some rest e.
        let parted = subst (λ cs. AnswersFrames by start cs replies world) e answers in
        let (told, left, mid, split, fore, back) = frames_in_parts by start world some rest replies parted in
        (told, left, mid, split, fore, back, from_reached by (before ++ some) (said ++ told) mid (reached_on some told mid fore));
    errors = λ some rest told left verb text answer long cs rs.
        let there = parted by start world verb text (Answered answer) commands some rest replies told left cs rs answers in
        let (old, new, fore, step, back) = frame_among by world verb text (Answered answer) rest left some told long start there in
        let (finds, ordinary) = frame_errors by old (before ++ some) (said ++ told) (reached_on some told old fore) new verb text answer step in
        (old, fore, finds, ordinary);
  }

-- ---- a run

lines_more : (replies : List Reply) (reply : Reply) → lines_of replies ++ line_of reply ≡ lines_of (replies ++ reply ∷ [])
lines_more [] reply = sym (append-nil (line_of reply))
lines_more (r ∷ rs) reply = append_assoc (line_of r) (lines_of rs) (line_of reply) ∙ ap (λ l. line_of r ++ l) (lines_more rs reply)

module _ (by : Setting) where
  pub in_turn : {start world : World} {n : ℕ} {bytes text : List ℕ} (run : Ran by start n bytes text world)
      → AnswersFrames by start (commands_of run) (replies_of run) world
  in_turn (Start world) = no_frame
  in_turn (Turn {body = body} {verb = verb} {reply = reply} ran below f step) = frames_on by verb body reply (in_turn ran) step

  frames_of : {start world : World} {n : ℕ} {bytes text : List ℕ} (run : Ran by start n bytes text world) → AreFrames (commands_of run) bytes
  frames_of (Start world) = refl
  frames_of (Turn {bytes = bytes} {frame = frame} {body = body} {verb = verb} ran below f step) =
      frames_more (commands_of ran) bytes frame body verb (frames_of ran) f

  counted : {start world : World} {n : ℕ} {bytes text : List ℕ} (run : Ran by start n bytes text world) → length (commands_of run) ≡ n
  counted (Start world) = refl
  counted (Turn {body = body} {verb = verb} ran below f step) =
      length-append (commands_of ran) ((verb, body) ∷ []) ∙ ap (λ m. m + 1) (counted ran)

  said_by : {start world : World} {n : ℕ} {bytes text : List ℕ} (run : Ran by start n bytes text world) → text ≡ lines_of (replies_of run)
  said_by (Start world) = refl
  said_by (Turn {reply = reply} ran below f step) = ap (λ l. l ++ line_of reply) (said_by ran) ∙ lines_more (replies_of ran) reply

pub runs_by_the_rules : RunsAreAnsweredByTheRules
runs_by_the_rules by before said start reached n bytes text world run =
    (frames_of by run, counted by run, said_by by run, goes_on by before said start reached (commands_of run) (replies_of run) world (in_turn by run))
