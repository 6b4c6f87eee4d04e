-- Frames that are answered from the middle of a run on.
use Rattle.std.proofs.Common.{◌≡◌, ℕ, ◌+◌, ◌-◌, ◌<◌, ◌≤◌, List, [], ◌++◌, length, take, Bool, true, false, None, Result, Ok, Err, IfOk, IfSome, refl, sym, ap, ◌∙◌, subst, append-nil, append_assoc, length-append, arith, inr}
use Rattle.std.specs.Prelude.{Option, IsErrOf}
use Rattle.std.proofs.lemmas.Result.{IfErr-at_err}
use Rattle.std.proofs.Math.Seq.{take-append_seam}
use Rattle.cedar_frames.specs.declared.verb.Verb.{Verb}
use Rattle.cedar_frames.specs.declared.watched.Watched.{Watched}
use Rattle.cedar_frames.specs.Frames.{IsFrame}
use Rattle.cedar_frames.specs.Reading.{Reads}
use Rattle.cedar_frames.proofs.Bytes.{appends_more, consumes_more}
use Rattle.cedar_world.specs.World.{World}
use Rattle.cedar_world.specs.Setting.{Setting}
use Rattle.cedar_world.specs.Commands.{Reply}
use Rattle.cedar_world.specs.Lines.{line_of}
use Rattle.cedar_world.specs.RunText.{most_frames, Ran, Start, Turn as OneTurn, FrameStep, TextCutShort, TextBeforeFailure, DueAnswer}
use Rattle.cedar_session.specs.declared.buffered.Turn.{Turn}
use Rattle.cedar_session.specs.declared.buffered.Turn.TheVariants.{Answered, Ended}
use Rattle.cedar_session.specs.declared.running.RunError.{RunError}
use Rattle.cedar_session.specs.declared.running.End.{End}
use Rattle.cedar_session.specs.Running.{Adds, EndsInput, CutsShort}
use Rattle.cedar_session.proofs.Runs.{read_failed}
use Rattle.cedar_session.specs.Ahead.{RunsOn, CutsOn, AnswersSome, EndsHere, TurnsTo, FailsToReadOn, FailsToWriteOn}

module _ (by : Setting) (before : ℕ) (mid : World) where
  pub runs_nothing : RunsOn by before mid [] [] before mid
  runs_nothing start frames said ran =
      subst (λ f. Ran by start before f (said ++ []) mid) (sym (append-nil frames)) (subst (λ s. Ran by start before frames s mid) (sym (append-nil said)) ran)

  module _ (bytes text : List ℕ) (n : ℕ) (world new : World) (runs : RunsOn by before mid bytes text n world) (few : n < most_frames)
      (frame body : List ℕ) (verb : Verb) (reply : Reply) (is : IsFrame frame verb body) (now : Setting) (same : now ≡ by) (step : FrameStep now world verb body reply new) where
    stepped : FrameStep by world verb body reply new
    stepped = subst (λ s. FrameStep s world verb body reply new) same step

    -- one frame more is answered
    pub runs_more : RunsOn by before mid (bytes ++ frame) (text ++ line_of reply) (n + 1) new
    runs_more start frames said ran =
        subst (λ f. Ran by start (n + 1) f (said ++ (text ++ line_of reply)) new) (append_assoc frames bytes frame)
        (subst (λ s. Ran by start (n + 1) ((frames ++ bytes) ++ frame) s new) (append_assoc said text (line_of reply)) (OneTurn (runs start frames said ran) few is stepped))

    -- its line is cut short
    pub cuts_more : (part more : List ℕ) → line_of reply ≡ part ++ more → CutsOn by before mid (bytes ++ frame) (text ++ part) new
    cuts_more part more beginning start frames said ran = (
      record {
        count = n;
        frames = frames ++ bytes;
        said = said ++ text;
        mid = world;
        ran = runs start frames said ran;
        tail = frame;
        line = line_of reply;
        ending = None;
        due = DueAnswer few is stepped;
        part = part;
        more = more;
        beginning = beginning;
        read = sym (append_assoc frames bytes frame);
        wrote = sym (append_assoc said text part);
      },
      refl,
    )

  -- one frame alone
  module _ (new : World) (few : before < most_frames) (frame body : List ℕ) (verb : Verb) (reply : Reply) (is : IsFrame frame verb body) (step : FrameStep by mid verb body reply new) where
    pub runs_one : RunsOn by before mid frame (line_of reply) (before + 1) new
    runs_one = runs_more [] [] before mid new runs_nothing few frame body verb reply is by refl step

    pub cuts_one : (part more : List ℕ) → line_of reply ≡ part ++ more → CutsOn by before mid frame part new
    cuts_one = cuts_more [] [] before mid new runs_nothing few frame body verb reply is by refl step

-- what was written whole is cut short by a flush that fails
last_cut : (by : Setting) (start new : World) (n : ℕ) (bytes text : List ℕ) → Ran by start n bytes text new → 0 < n → (cut : TextCutShort by bytes start text new) × (cut.ending ≡ None)
last_cut by start new n bytes text (Start _) some = absurd (omega (arith, some))
last_cut by start new n bytes text (OneTurn ran few is step) some = (
  record {
    count = _;
    frames = _;
    said = _;
    mid = _;
    ran = ran;
    tail = _;
    line = _;
    ending = None;
    due = DueAnswer few is step;
    part = _;
    more = [];
    beginning = sym (append-nil _);
    read = refl;
    wrote = refl;
  },
  refl,
)

pub cuts_whole : (by : Setting) (before after : ℕ) (mid new : World) (bytes text : List ℕ) → before < after → RunsOn by before mid bytes text after new → CutsOn by before mid bytes text new
cuts_whole by before after mid new bytes text some runs start frames said ran = last_cut by start new after (frames ++ bytes) (said ++ text) (runs start frames said ran) (omega (arith, some))

-- a writer that fails by a line or by the flush behind them
pub either_cut : (failed : Bool) (by : Setting) (before after : ℕ) (mid new : World) (ahead rest : List ℕ) (Wrote : List ℕ → Type 0)
    → (failed ≡ false → (bytes text : List ℕ) × (ahead ≡ bytes ++ rest) × Wrote text × RunsOn by before mid bytes text after new)
    → (failed ≡ true → (bytes text : List ℕ) × (ahead ≡ bytes ++ rest) × Wrote text × CutsOn by before mid bytes text new)
    → before < after → (bytes text : List ℕ) × (ahead ≡ bytes ++ rest) × Wrote text × CutsOn by before mid bytes text new
either_cut true by before after mid new ahead rest Wrote answered cut some = cut refl
either_cut false by before after mid new ahead rest Wrote answered cut some =
    let whole = answered refl in (whole.0, whole.1, whole.2, whole.3, cuts_whole by before after mid new whole.0 whole.1 some whole.4)

-- ---- one turn behind a look that took nothing

module _ {R W : Type 0} (remaining : R → Option (List ℕ)) (contents : W → Option (List ℕ)) (by now : Setting) (before : ℕ)
    (first reader reader' : Watched R) (writer mid_writer writer' : Watched W) (old mid new : World)
    (same : Reads remaining first reader []) (setting : now ≡ by) (unwritten : mid_writer ≡ writer) (unchanged : mid ≡ old) where
  carry : (P : Setting → Watched W → World → Type 0) → P now mid_writer mid → P by writer old
  carry P h = subst (λ s. P s writer old) setting (subst (λ w. P now w old) unwritten (subst (λ o. P now mid_writer o) unchanged h))

  pub turn_from : (turn : Turn) → TurnsTo remaining contents now before reader reader' mid_writer writer' mid new turn
      → TurnsTo remaining contents by before first reader' writer writer' old new turn
  turn_from (Answered after) h =
      let t = carry (λ s w o. AnswersSome remaining contents s before reader reader' w writer' o new after) h in
      record { some = t.some; countable = t.countable; sent = t.sent; bytes = t.bytes; text = t.text; read = consumes_more _ _ _ [] t.bytes same t.read; wrote = t.wrote; ran = t.ran }
  turn_from (Ended end) h =
      let t = carry (λ s w o. EndsHere remaining contents s before reader reader' w writer' o new end) h in
      record { tail = t.tail; read = consumes_more _ _ _ [] t.tail same t.read; ends = t.ends; input = t.input; unwritten = t.unwritten; unchanged = t.unchanged }

  pub turns_from : (result : Result Turn RunError) → IfOk result (λ turn. TurnsTo remaining contents now before reader reader' mid_writer writer' mid new turn)
      → IfOk result (λ turn. TurnsTo remaining contents by before first reader' writer writer' old new turn)
  turns_from (Ok turn) h = turn_from turn h
  turns_from (Err error) h = tt

  pub read_failed_from : FailsToReadOn remaining contents now before reader reader' mid_writer writer' mid new → FailsToReadOn remaining contents by before first reader' writer writer' old new
  read_failed_from h =
      let t = carry (λ s w o. FailsToReadOn remaining contents s before reader reader' w writer' o new) h in
      record { failed = t.failed; tail = t.tail; read = consumes_more _ _ _ [] t.tail same t.read; partial = t.partial; unwritten = t.unwritten; unchanged = t.unchanged }

  pub write_failed_from : FailsToWriteOn remaining contents now before reader reader' mid_writer writer' mid new → FailsToWriteOn remaining contents by before first reader' writer writer' old new
  write_failed_from h =
      let t = carry (λ s w o. FailsToWriteOn remaining contents s before reader reader' w writer' o new) h in
      record { failed = t.failed; bytes = t.bytes; text = t.text; read = consumes_more _ _ _ [] t.bytes same t.read; wrote = t.wrote; cut = t.cut }

-- the bytes that stand before the rest
pub front_of : (ahead bytes rest : List ℕ) (taken : ℕ) → ahead ≡ bytes ++ rest → taken ≡ length ahead - length rest → take taken ahead ≡ bytes
front_of ahead bytes rest taken is n =
    let long : taken ≡ length bytes = omega (arith, n, ap length is, length-append bytes rest) in
    ap (λ k. take k ahead) long ∙ ap (take (length bytes)) is ∙ take-append_seam bytes rest

pub front_within : (ahead bytes rest : List ℕ) (taken : ℕ) → ahead ≡ bytes ++ rest → taken ≡ length ahead - length rest → taken ≤ length ahead
front_within ahead bytes rest taken is n = omega (arith, n)

-- ---- turns of a run

module _ {R W : Type 0} (remaining : R → Option (List ℕ)) (contents : W → Option (List ℕ)) (by now : Setting) (n : ℕ)
    (reader0 reader reader' : Watched R) (writer0 writer writer' : Watched W) (start mid new : World) (setting : now ≡ by)
    (so_far : (bytes said : List ℕ) × Reads remaining reader0 reader bytes × Adds contents writer0 writer said × Ran by start n bytes said mid) where
  pub goes_on : (after : ℕ) → AnswersSome remaining contents now n reader reader' writer writer' mid new after
      → (bytes said : List ℕ) × Reads remaining reader0 reader' bytes × Adds contents writer0 writer' said × Ran by start after bytes said new
  goes_on after h =
      let t = subst (λ s. AnswersSome remaining contents s n reader reader' writer writer' mid new after) setting h in (
        so_far.0 ++ t.bytes,
        so_far.1 ++ t.text,
        consumes_more _ _ _ so_far.0 t.bytes so_far.2 t.read,
        appends_more _ _ _ so_far.1 t.text so_far.3 t.wrote,
        t.ran start so_far.0 so_far.1 so_far.4,
      )

  -- nothing is answered where the run is to end
  pub stays : (end : End) → EndsHere remaining contents now n reader reader' writer writer' mid new end
      → (bytes said : List ℕ) × Reads remaining reader0 reader bytes × Adds contents writer0 writer' said × Ran by start n bytes said new
  stays end t =
      subst (λ w. (bytes said : List ℕ) × Reads remaining reader0 reader bytes × Adds contents writer0 w said × Ran by start n bytes said new) (sym t.unwritten)
      (subst (λ o. (bytes said : List ℕ) × Reads remaining reader0 reader bytes × Adds contents writer0 writer said × Ran by start n bytes said o) (sym t.unchanged) so_far)

  pub fails_to_read : n < most_frames → FailsToReadOn remaining contents now n reader reader' writer writer' mid new
      → (bytes text : List ℕ) × Reads remaining reader0 reader' bytes × Adds contents writer0 writer' text × TextBeforeFailure by bytes start text new
  fails_to_read few t =
      subst (λ w. (bytes text : List ℕ) × Reads remaining reader0 reader' bytes × Adds contents writer0 w text × TextBeforeFailure by bytes start text new) (sym t.unwritten)
      (subst (λ o. (bytes text : List ℕ) × Reads remaining reader0 reader' bytes × Adds contents writer0 writer text × TextBeforeFailure by bytes start text o) (sym t.unchanged)
      (read_failed by _ _ _ _ _ start n so_far.0 so_far.1 so_far.2 so_far.3 mid so_far.4 t.tail t.read t.partial (inr few)))

  pub fails_to_write : FailsToWriteOn remaining contents now n reader reader' writer writer' mid new
      → (bytes text : List ℕ) × Reads remaining reader0 reader' bytes × Adds contents writer0 writer' text × CutsShort remaining reader' by bytes start text new
  fails_to_write h =
      let t = subst (λ s. FailsToWriteOn remaining contents s n reader reader' writer writer' mid new) setting h in
      let k = t.cut start so_far.0 so_far.1 so_far.4 in (
        so_far.0 ++ t.bytes,
        so_far.1 ++ t.text,
        consumes_more _ _ _ so_far.0 t.bytes so_far.2 t.read,
        appends_more _ _ _ so_far.1 t.text so_far.3 t.wrote,
        (k.0, subst (λ o. IfSome o (λ end. EndsInput remaining end reader')) (sym k.1) tt),
      )

-- an error is the same of any two kinds of results
pub same_error : {A B E : Type 0} (error other : E) → IsErrOf {T = A} (Err error) other → IsErrOf {T = B} (Err error) other
same_error error other h = ap (λ e. Err e) (IfErr-at_err (λ e. error ≡ e) h refl)
