-- Steps of a run, over what its devices give and hold.
use Rattle.std.proofs.Common.{◌≡◌, ◌≢◌, ℕ, ◌+◌, ◌<◌, ◌⊎◌, List, [], ◌++◌, Option, Some, None, Result, Ok, Err, IfOk, IfSome, refl, sym, subst, append-nil}
use Rattle.std.specs.Prelude.{IsErrOf, OnErr}
use Rattle.std.specs.Io.KnownBytes.{Consumes, Appends}
use Rattle.cedar_frames.specs.declared.verb.Verb.{Verb}
use Rattle.cedar_frames.specs.declared.fault.Fault.{Fault}
use Rattle.cedar_frames.specs.declared.fault.Fault.TheVariants.{BadHead, TooLong, Truncated, NoLineFeed, TooMany}
use Rattle.cedar_frames.specs.Frames.{IsFrame, IsPartial, IsFault}
use Rattle.cedar_frames.proofs.Bytes.{appends_more, consumes_more}
use Rattle.cedar_world.specs.World.{World}
use Rattle.cedar_world.specs.Setting.{Setting}
use Rattle.cedar_world.specs.Commands.{Reply}
use Rattle.cedar_world.specs.Lines.{line_of}
use Rattle.cedar_world.specs.RunText.{most_frames, Ran, Turn, FrameStep, End as RunEnd, Ends, Faulty, last_line, RunText, TextBeforeFailure, TextCutShort, DueEnd, DueAnswer}
use Rattle.cedar_session.specs.declared.running.End.{End}
use Rattle.cedar_session.specs.declared.running.RunError.{RunError}
use Rattle.cedar_session.specs.declared.running.RunError.TheVariants.{Write}
use Rattle.cedar_session.specs.Running.{end_of}

pub consumes_nothing : (r : Option (List ℕ)) → Consumes r r []
consumes_nothing None = tt
consumes_nothing (Some xs) = refl

pub appends_nothing : (c : Option (List ℕ)) → Appends c c []
appends_nothing None = tt
appends_nothing (Some xs) = sym (append-nil xs)

-- a fault that a frame shows ends a run behind fewer frames than can be counted
pub fault_ends : (fault : Fault) (n : ℕ) (tail : List ℕ) → n < most_frames → fault ≢ TooMany → IsFault fault tail → Ends n (Faulty fault) tail
fault_ends BadHead n tail few other is = (few, is)
fault_ends TooLong n tail few other is = (few, is)
fault_ends Truncated n tail few other is = (few, is)
fault_ends NoLineFeed n tail few other is = (few, is)
fault_ends TooMany n tail few other is = absurd (other refl)

-- the reader failed
module _ (by : Setting) (r0 r1 r2 c0 c1 : Option (List ℕ)) (start : World) (n : ℕ) (frames said : List ℕ) (read : Consumes r0 r1 frames) (wrote : Appends c0 c1 said) (new : World) (ran : Ran by start n frames said new)
    (tail : List ℕ) (rest : Consumes r1 r2 tail) where
  pub read_failed : IsPartial tail → (tail ≡ []) ⊎ (n < most_frames) → (bytes text : List ℕ) × Consumes r0 r2 bytes × Appends c0 c1 text × TextBeforeFailure by bytes start text new
  read_failed part few = (
    frames ++ tail,
    said,
    consumes_more r0 r1 r2 frames tail read rest,
    wrote,
    record { count = n; frames = frames; ran = ran; tail = tail; partial = part; countable = few; read = refl },
  )

module _ (by : Setting) (r0 r1 r2 c0 c1 c2 : Option (List ℕ)) (start : World) (n : ℕ) (frames said : List ℕ) (read : Consumes r0 r1 frames) (wrote : Appends c0 c1 said) where
  -- ---- the end

  module _ (new : World) (ran : Ran by start n frames said new) (tail : List ℕ) (rest : Consumes r1 r2 tail) where
    module _ (end : End) (ends : Ends n (end_of end) tail) (result : Result End RunError) where
      pub ended : (EndsInput : End → Type 0) (sound : Type 0) → EndsInput end → IfOk result (λ e. (e ≡ end) × sound × Appends c1 c2 (last_line (end_of end)))
          → IfOk result (λ e. (bytes text : List ℕ) × Consumes r0 r2 bytes × EndsInput e × Appends c0 c2 text × RunText by bytes start text (end_of e) new)
      ended EndsInput sound input ok = by_result result ok
        where
          by_result : (result : Result End RunError) → IfOk result (λ e. (e ≡ end) × sound × Appends c1 c2 (last_line (end_of end)))
              → IfOk result (λ e. (bytes text : List ℕ) × Consumes r0 r2 bytes × EndsInput e × Appends c0 c2 text × RunText by bytes start text (end_of e) new)
          by_result (Ok e) ok =
              subst (λ e. (bytes text : List ℕ) × Consumes r0 r2 bytes × EndsInput e × Appends c0 c2 text × RunText by bytes start text (end_of e) new) (sym ok.0) (
                frames ++ tail,
                said ++ last_line (end_of end),
                consumes_more r0 r1 r2 frames tail read rest,
                input,
                appends_more c0 c1 c2 said (last_line (end_of end)) wrote ok.2,
                record { count = n; frames = frames; said = said; ran = ran; tail = tail; ends = ends; read = refl; wrote = refl },
              )
          by_result (Err e) ok = tt

      pub cut_at_end : (failed sound : Type 0) (EndsInput : RunEnd → Type 0) → EndsInput (end_of end)
          → OnErr result (failed × sound × ((part more : List ℕ) × (last_line (end_of end) ≡ part ++ more) × Appends c1 c2 part)) → IsErrOf result Write
          → (bytes text : List ℕ) × Consumes r0 r2 bytes × Appends c0 c2 text × ((cut : TextCutShort by bytes start text new) × IfSome cut.ending EndsInput)
      cut_at_end failed sound EndsInput input err h =
          let said_so = subst (λ r. OnErr r (failed × sound × ((part more : List ℕ) × (last_line (end_of end) ≡ part ++ more) × Appends c1 c2 part))) h err in
          let some = said_so.2 in (
            frames ++ tail,
            said ++ some.0,
            consumes_more r0 r1 r2 frames tail read rest,
            appends_more c0 c1 c2 said some.0 wrote some.3,
            (
              record {
                count = n;
                frames = frames;
                said = said;
                mid = new;
                ran = ran;
                tail = tail;
                line = last_line (end_of end);
                ending = Some (end_of end);
                due = DueEnd (end_of end) ends;
                part = some.0;
                more = some.1;
                beginning = some.2;
                read = refl;
                wrote = refl;
              },
              input,
            ),
          )

  -- ---- a frame

  module _ (mid new : World) (ran : Ran by start n frames said mid) (few : n < most_frames) (frame body : List ℕ) (verb : Verb) (reply : Reply)
      (rest : Consumes r1 r2 frame) (is : IsFrame frame verb body) (now : Setting) (same : now ≡ by) (step : FrameStep now mid verb body reply new) where
    stepped : FrameStep by mid verb body reply new
    stepped = subst (λ s. FrameStep s mid verb body reply new) same step

    -- its answer is cut short
    pub cut_at_answer : (EndsInput : RunEnd → Type 0) (part more : List ℕ) → line_of reply ≡ part ++ more → Appends c1 c2 part
        → (bytes text : List ℕ) × Consumes r0 r2 bytes × Appends c0 c2 text × ((cut : TextCutShort by bytes start text new) × IfSome cut.ending EndsInput)
    cut_at_answer EndsInput part more beginning added = (
      frames ++ frame,
      said ++ part,
      consumes_more r0 r1 r2 frames frame read rest,
      appends_more c0 c1 c2 said part wrote added,
      (
        record {
          count = n;
          frames = frames;
          said = said;
          mid = mid;
          ran = ran;
          tail = frame;
          line = line_of reply;
          ending = None;
          due = DueAnswer few is stepped;
          part = part;
          more = more;
          beginning = beginning;
          read = refl;
          wrote = refl;
        },
        tt,
      ),
    )

    -- it is answered
    pub one_more : Appends c1 c2 (line_of reply) → (bytes text : List ℕ) × Consumes r0 r2 bytes × Appends c0 c2 text × Ran by start (n + 1) bytes text new
    one_more added =
        (frames ++ frame, said ++ line_of reply, consumes_more r0 r1 r2 frames frame read rest, appends_more c0 c1 c2 said (line_of reply) wrote added, Turn ran few is stepped)
