-- A run's frames and its end are those of its input.
use Rattle.std.proofs.Common.{◌≡◌, ◌≢◌, ◌⊎◌, inl, inr, ℕ, ◌+◌, ◌<◌, ◌≤◌, Option, None, List, [], ◌∷◌, ◌++◌, length, append_assoc, append-nil, length-append, refl, sym, ◌∙◌, ap, subst, arith}
use Rattle.std.proofs.lemmas.Bool.{cases_order}
use Rattle.cedar_frames.specs.declared.verb.Verb.{Verb}
use Rattle.cedar_frames.specs.declared.fault.Fault.{Fault}
use Rattle.cedar_frames.specs.declared.fault.Fault.TheVariants.{BadHead, TooLong, Truncated, NoLineFeed, TooMany}
use Rattle.cedar_frames.specs.Frames.{IsFrame, AreFrames, IsFault}
use Rattle.cedar_frames.specs.Laws.{FramesBegin, FramesAreOne, FaultsStay, FaultsAreOne}
use Rattle.cedar_world.specs.World.{World}
use Rattle.cedar_world.specs.Setting.{Setting}
use Rattle.cedar_world.specs.RunText.{End, Clean, Faulty, most_frames, Ends, Ran, Start, Turn, IsDue, DueAnswer, DueEnd, RunText}
use Rattle.cedar_world.specs.RunLaws.{Leaves, RunsReadTheSame, BeginWith, CutRunsBeginAlike}

-- ---- the frames of a run

pub frames_more : (commands : List (Verb × List ℕ)) (bytes frame body : List ℕ) (verb : Verb) → AreFrames commands bytes → IsFrame frame verb body → AreFrames (commands ++ (verb, body) ∷ []) (bytes ++ frame)
frames_more [] bytes frame body verb h f = (frame, [], f, refl, ap (λ l. l ++ frame) h ∙ sym (append-nil frame))
frames_more (c ∷ cs) bytes frame body verb h f = (h.0, h.1 ++ frame, h.2, frames_more cs h.1 frame body verb h.3 f, ap (λ l. l ++ frame) h.4 ∙ append_assoc h.0 h.1 frame)

ran_frames : {by : Setting} {start new : World} {n : ℕ} {bytes text : List ℕ} → Ran by start n bytes text new
    → (commands : List (Verb × List ℕ)) × AreFrames commands bytes × (length commands ≡ n) × (n ≤ most_frames)
ran_frames (Start world) = ([], refl, refl, omega arith)
ran_frames (Turn {n = n} {bytes = bytes} {frame = frame} {body = body} {verb = verb} ran below f step) =
    let before = ran_frames ran in
    (before.0 ++ (verb, body) ∷ [], frames_more before.0 bytes frame body verb before.1 f, length-append before.0 ((verb, body) ∷ []) ∙ ap (λ m. m + 1) before.2, omega (arith, below))

-- ---- where a run ends no frame stands

too_many_or_not : (fault : Fault) → (fault ≡ TooMany) ⊎ (fault ≢ TooMany)
too_many_or_not TooMany = inl refl
too_many_or_not _ = inr (λ e. cc)

fault_shown : (n : ℕ) (fault : Fault) (tail : List ℕ) → Ends n (Faulty fault) tail → IsFault fault tail
fault_shown n BadHead tail h = h.1
fault_shown n _ tail h = h.1

countable : (n : ℕ) (fault : Fault) (tail : List ℕ) → Ends n (Faulty fault) tail → fault ≢ TooMany → n < most_frames
countable n TooMany tail h other = absurd (other refl)
countable n _ tail h other = h.0

nothing_left : (fault : Fault) (left : List ℕ) → Leaves (Faulty fault) left → fault ≡ Truncated → left ≡ []
nothing_left Truncated left h e = h
nothing_left _ left h e = absurd (cc)

not_empty : (front rest : List ℕ) (byte : ℕ) → front ++ byte ∷ [] ≡ [] → ⊥
not_empty [] rest byte e = cc
not_empty (f ∷ front) rest byte e = cc

frame_not_empty : (frame rest body : List ℕ) (verb : Verb) → IsFrame frame verb body → [] ≡ frame ++ rest → ⊥
frame_not_empty frame rest body verb f e =
    let all : 0 ≡ length frame + length rest = ap length e ∙ length-append frame rest in
    let own : length frame ≡ length (f.head ++ body) + 1 = ap length f.is ∙ length-append (f.head ++ body) (10 ∷ []) in
    omega (arith, all, own)

module _ (faults_stay : FaultsStay) where
  ends_here : (n : ℕ) (end : End) (tail left frame rest body : List ℕ) (verb : Verb) → Ends n end tail → Leaves end left → n < most_frames → IsFrame frame verb body → tail ++ left ≡ frame ++ rest → ⊥
  ends_here n Clean tail left frame rest body verb h l below f e = frame_not_empty frame rest body verb f (sym (ap (λ x. x ++ left) h ∙ l) ∙ e)
  ends_here n (Faulty fault) tail left frame rest body verb h l below f e = by_kind (too_many_or_not fault)
    where
      many : (other : Fault) → other ≡ TooMany → Ends n (Faulty other) tail → ⊥
      many BadHead is g = cc
      many TooLong is g = cc
      many Truncated is g = cc
      many NoLineFeed is g = cc
      many TooMany is g = omega (arith, below, g.0)

      by_kind : (fault ≡ TooMany) ⊎ (fault ≢ TooMany) → ⊥
      by_kind (inl is) = many fault is h
      by_kind (inr other) = faults_stay fault tail left frame rest verb body (nothing_left fault left l) other (fault_shown n fault tail h) f e

-- ---- where a run ends, it ends in one way

shows : (fault : Fault) (tail : List ℕ) → IsFault fault tail → tail ≡ [] → ⊥
shows BadHead tail (inl w) e = let none : length tail ≡ 0 = ap length e in omega (arith, none, w.0)
shows BadHead tail (inr w) e = not_empty w.line [] 10 (sym w.is ∙ e)
shows TooLong tail h e = not_empty h.2.line [] 10 (sym h.2.is ∙ e)
shows Truncated tail h e = h.1 e
shows NoLineFeed tail h e = not_empty (h.head ++ h.body) [] h.byte (sym h.is ∙ e)
shows TooMany tail h e = let none : length tail ≡ 0 = ap length e in omega (arith, none, h)

no_front : (xs ys : List ℕ) → xs ++ ys ≡ [] → xs ≡ []
no_front [] ys e = refl
no_front (x ∷ xs) ys e = absurd (cc)

one_byte : (tail tail' left left' : List ℕ) → length tail ≡ 1 → length tail' ≡ 1 → tail ++ left ≡ tail' ++ left' → tail ≡ tail'
one_byte (x ∷ []) [] left left' p q e = absurd (omega (arith, q))
one_byte (x ∷ []) (y ∷ z ∷ ys) left left' p q e = absurd (omega (arith, q))
one_byte (x ∷ []) (y ∷ []) left left' p q e = cc
one_byte _ tail' left left' p q e = absurd (omega (arith, p))

module _ (faults_one : FaultsAreOne) where
  faults_end_one : (n : ℕ) (fault other : Fault) (tail tail' left left' : List ℕ) → Ends n (Faulty fault) tail → Ends n (Faulty other) tail' → Leaves (Faulty fault) left → Leaves (Faulty other) left'
      → tail ++ left ≡ tail' ++ left' → (fault ≡ TooMany) ⊎ (fault ≢ TooMany) → (other ≡ TooMany) ⊎ (other ≢ TooMany) → (fault ≡ other) × (tail ≡ tail')
  faults_end_one n fault other tail tail' left left' h g l m e (inl p) (inl q) =
      (p ∙ sym q, one_byte tail tail' left left' (subst (λ f. IsFault f tail) p (fault_shown n fault tail h)) (subst (λ f. IsFault f tail') q (fault_shown n other tail' g)) e)
  faults_end_one n fault other tail tail' left left' h g l m e (inl p) (inr q) =
      let many : Ends n (Faulty TooMany) tail = subst (λ f. Ends n (Faulty f) tail) p h in absurd (omega (arith, many.0, countable n other tail' g q))
  faults_end_one n fault other tail tail' left left' h g l m e (inr p) (inl q) =
      let many : Ends n (Faulty TooMany) tail' = subst (λ f. Ends n (Faulty f) tail') q g in absurd (omega (arith, many.0, countable n fault tail h p))
  faults_end_one n fault other tail tail' left left' h g l m e (inr p) (inr q) =
      faults_one fault other tail tail' left left' (nothing_left fault left l) (nothing_left other left' m) p q (fault_shown n fault tail h) (fault_shown n other tail' g) e

  end_one : (n : ℕ) (end end' : End) (tail tail' left left' : List ℕ) → Ends n end tail → Ends n end' tail' → Leaves end left → Leaves end' left' → tail ++ left ≡ tail' ++ left' → (tail ≡ tail') × (end ≡ end')
  end_one n Clean Clean tail tail' left left' h g l m e = (h ∙ sym g, refl)
  end_one n Clean (Faulty other) tail tail' left left' h g l m e = absurd (shows other tail' (fault_shown n other tail' g) (no_front tail' left' (sym e ∙ ap (λ x. x ++ left) h ∙ l)))
  end_one n (Faulty fault) Clean tail tail' left left' h g l m e = absurd (shows fault tail (fault_shown n fault tail h) (no_front tail left (e ∙ ap (λ x. x ++ left') g ∙ m)))
  end_one n (Faulty fault) (Faulty other) tail tail' left left' h g l m e =
      let same = faults_end_one n fault other tail tail' left left' h g l m e (too_many_or_not fault) (too_many_or_not other) in (same.1, ap (λ f. Faulty f) same.0)

-- ---- two runs

module _ (frames_begin : FramesBegin) (frames_one : FramesAreOne) (faults_stay : FaultsStay) where
  -- the run that read fewer frames ended before one that stood there
  fewer : (a b tail left rest : List ℕ) (commands others : List (Verb × List ℕ)) (end : End) → AreFrames commands a → AreFrames others b → length commands < length others → length others ≤ most_frames
      → Ends (length commands) end tail → Leaves end left → a ++ (tail ++ left) ≡ b ++ rest → ⊥
  fewer a b tail left rest commands others end p q below most h l e =
      let more = frames_begin commands others a b (tail ++ left) rest p q (omega (arith, below)) e in
      let behind : tail ++ left ≡ more.1 ++ rest = (frames_one commands commands a a (tail ++ left) (more.1 ++ rest) p p refl (e ∙ ap (λ x. x ++ rest) more.4 ∙ append_assoc a more.1 rest)).2 in
      at more.0 more.1 (ap length more.2 ∙ length-append commands more.0) more.3 behind
    where
      at : (last : List (Verb × List ℕ)) (c : List ℕ) → length others ≡ length commands + length last → AreFrames last c → tail ++ left ≡ c ++ rest → ⊥
      at [] c long are behind = omega (arith, long, below)
      at ((verb, body) ∷ last) c long are behind =
          ends_here faults_stay (length commands) end tail left are.0 (are.1 ++ rest) body verb h l (omega (arith, below, most)) are.2 (behind ∙ ap (λ x. x ++ rest) are.4 ∙ append_assoc are.0 are.1 rest)

  pub read_the_same : FaultsAreOne → RunsReadTheSame
  read_the_same faults_one by bytes text left bytes' text' left' start new start' new' end end' run other l m e =
      let f = ran_frames run.ran in
      let g = ran_frames other.ran in
      compared f.0 g.0 f.1 g.1 f.2 g.2 f.3 g.3 (cases_order (length f.0) (length g.0))
    where
      whole : run.frames ++ (run.tail ++ left) ≡ other.frames ++ (other.tail ++ left')
      whole =
          sym (append_assoc run.frames run.tail left) ∙ sym (ap (λ x. x ++ left) run.read) ∙ e ∙ ap (λ x. x ++ left') other.read
          ∙ append_assoc other.frames other.tail left'

      compared : (commands others : List (Verb × List ℕ)) → AreFrames commands run.frames → AreFrames others other.frames → length commands ≡ run.count → length others ≡ other.count
          → run.count ≤ most_frames → other.count ≤ most_frames → (length commands ≡ length others) ⊎ ((length commands < length others) ⊎ (length others < length commands))
          → (run.frames ≡ other.frames) × (run.count ≡ other.count) × (run.tail ≡ other.tail) × (end ≡ end')
      compared commands others p q i j u v (inl same) =
          let one = frames_one commands others run.frames other.frames (run.tail ++ left) (other.tail ++ left') p q same whole in
          let counts : run.count ≡ other.count = sym i ∙ same ∙ j in
          let ends = end_one faults_one other.count end end' run.tail other.tail left left' (subst (λ n. Ends n end run.tail) counts run.ends) other.ends l m one.2 in
          (one.1, counts, ends.0, ends.1)
      compared commands others p q i j u v (inr (inl below)) =
          absurd (fewer run.frames other.frames run.tail left (other.tail ++ left') commands others end p q below (omega (arith, j, v)) (subst (λ n. Ends n end run.tail) (sym i) run.ends) l whole)
      compared commands others p q i j u v (inr (inr above)) =
          absurd (fewer other.frames run.frames other.tail left' (run.tail ++ left) others commands end' q p above (omega (arith, i, u)) (subst (λ n. Ends n end' other.tail) (sym j) other.ends) m (sym whole))

  -- ---- a run that was cut short

  begins : (by : Setting) (read text left bytes' text' left' : List ℕ) (n : ℕ) (start mid start' new' : World) (end : End)
      → Ran by start n read text mid → (whole : RunText by bytes' start' text' end new')
      → Leaves end left' → read ++ left ≡ bytes' ++ left' → BeginWith whole.frames whole.count read n
  begins by read text left bytes' text' left' n start mid start' new' end ran whole l e =
      let f = ran_frames ran in
      let g = ran_frames whole.ran in
      compared f.0 g.0 f.1 g.1 f.2 g.2 f.3 (cases_order (length f.0) (length g.0))
    where
      there : read ++ left ≡ whole.frames ++ (whole.tail ++ left')
      there = e ∙ ap (λ x. x ++ left') whole.read ∙ append_assoc whole.frames whole.tail left'

      not_above : (commands others : List (Verb × List ℕ)) → AreFrames commands read → AreFrames others whole.frames
          → length commands ≡ n → length others ≡ whole.count → length commands ≤ length others → BeginWith whole.frames whole.count read n
      not_above commands others p q i j below =
          let (last, frames, more, are, is) = frames_begin commands others read whole.frames left (whole.tail ++ left') p q below there in
          (last, frames, are, is, sym j ∙ ap length more ∙ length-append commands last ∙ ap (λ m. m + length last) i)

      compared : (commands others : List (Verb × List ℕ)) → AreFrames commands read → AreFrames others whole.frames
          → length commands ≡ n → length others ≡ whole.count → n ≤ most_frames
          → (length commands ≡ length others) ⊎ ((length commands < length others) ⊎ (length others < length commands))
          → BeginWith whole.frames whole.count read n
      compared commands others p q i j u (inl same) = not_above commands others p q i j (omega (arith, same))
      compared commands others p q i j u (inr (inl below)) = not_above commands others p q i j (omega (arith, below))
      compared commands others p q i j u (inr (inr above)) =
          let ends = subst (λ m. Ends m end whole.tail) (sym j) whole.ends in
          absurd (fewer whole.frames read whole.tail left' left others commands end q p above (omega (arith, i, u)) ends l (sym there))

  -- the frame whose answer was due is a whole one
  due_ran : {by : Setting} {start mid new : World} {n : ℕ} {bytes text tail line : List ℕ} {ending : Option End}
      → Ran by start n bytes text mid → IsDue by mid n tail line ending new → ending ≡ None → Ran by start (n + 1) (bytes ++ tail) (text ++ line) new
  due_ran ran (DueAnswer below frame step) e = Turn ran below frame step
  due_ran ran (DueEnd end ends) e = absurd (cc)

  pub cut_runs_begin_alike : CutRunsBeginAlike
  cut_runs_begin_alike = record {
    by_reader = λ by bytes text left bytes' text' left' start new start' new' end cut whole l e.
        let read = sym (ap (λ x. x ++ left) cut.read ∙ append_assoc cut.frames cut.tail left) in
        begins by cut.frames text (cut.tail ++ left) bytes' text' left' cut.count start new start' new' end cut.ran whole l (read ∙ e);
    by_writer = λ by bytes text left bytes' text' left' start new start' new' end cut whole l e.
        let read = sym (ap (λ x. x ++ left) cut.read ∙ append_assoc cut.frames cut.tail left) in (
          begins by cut.frames cut.said (cut.tail ++ left) bytes' text' left' cut.count start cut.mid start' new' end cut.ran whole l (read ∙ e),
          λ answer.
              begins by (cut.frames ++ cut.tail) (cut.said ++ cut.line) left bytes' text' left' (cut.count + 1) start new start' new' end
              (due_ran cut.ran cut.due answer) whole l (sym (ap (λ x. x ++ left) cut.read) ∙ e),
        );
  }
