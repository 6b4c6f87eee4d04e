-- Steps of a session that tells.
use Rattle.std.proofs.Common.{◌≡◌, ◌⊎◌, inl, inr, ◌<◌, ◌≤◌, false, true, Some, None, Err, refl, sym, ◌∙◌, ap, subst, arith}
use Rattle.std.specs.Prelude.{IsSome}
use Rattle.cedar_language.specs.Uid as uid
use Rattle.cedar_language.specs.Tree.{Tree}
use Rattle.cedar_language.specs.Height.{height}
use Rattle.cedar_world.specs.Answer as world
use Rattle.cedar_world.specs.World.{World, Asked}
use Rattle.cedar_world.specs.Asking.{Told}
use Rattle.cedar_world.specs.Bodies.{Fields, is_restricted, tell_body}
use Rattle.cedar_world.specs.Heights.{TellsTooDeep}
use Rattle.cedar_world.specs.Question.{Portion, HasOpenContext, told_with}
use Rattle.cedar_world.specs.Refusals.{Refuses, Stands, IsFirst, BodyStands, TellCases, ContextErrs}
use Rattle.cedar_world.specs.Setting.{Setting, IsBodyWithin, IsBody, BodiesAreOne}
use Rattle.cedar_world.specs.Step.{Step, IsLaterAnswer, SomeInForce, opens}
use Rattle.cedar_world.specs.Values.{context_errs, values}
use Rattle.cedar_world.specs.Commands as commands
use Rattle.cedar_world.specs.Commands.{Tell, Answered, Refused, rank}
use Rattle.cedar_world.proofs.Parts.{same_some, not_none}
use Rattle.cedar_world.proofs.BodyCommands.{First, not_below, no_text, not_restricted, misshapen, stands_not, stands_first}
use Rattle.cedar_telling.specs.Tells.{TellsBody, TellMore, are_of_other_kinds}
use Rattle.cedar_replies.specs.declared.refusal.Refusal.{Refusal}
use Rattle.cedar_replies.specs.declared.refusal.Refusal.TheVariants.{Text, Depth, NotRestricted, Shape, Evaluation, NotAValue, NoSuchUnknown, AlreadyTold, WrongKind, Memory}
use Rattle.cedar_replies.specs.Refusals.{refusal_of}
use Rattle.cedar_session.specs.TextReading.{ReadsBody}
use Rattle.cedar_session.proofs.Edits.{not_both}

-- where no question is open
pub no_question : (by : Setting) (old : World) (text : uid.Text) → old.asked ≡ None → Step by old Tell text (Refused commands.NoQuestion) old
no_question by old text none = (none, refl)

module _ (by : Setting) (old : World) (text : uid.Text) (once : BodiesAreOne by) (asked : Asked) (was_open : old.asked ≡ Some asked) where
  some_asked : IsSome old.asked
  some_asked = subst IsSome (sym was_open) refl

  -- the question that is open is one
  of_asked : (r : commands.Refusal) → Stands by old text Tell r → BodyStands by old text tell_body (TellCases by old asked) r
  of_asked r h = subst (λ a. BodyStands by old text tell_body (TellCases by old a) r) (same_some h.0 asked (sym h.1 ∙ was_open)) h.2

  to_asked : (r : commands.Refusal) → BodyStands by old text tell_body (TellCases by old asked) r → Stands by old text Tell r
  to_asked r h = (asked, was_open, h)

  is_first : (r : commands.Refusal) → First by old text tell_body (TellCases by old asked) r → IsFirst by old text Tell r
  is_first r h = (to_asked r h.0, λ s lt x. h.1 s lt (of_asked s x))

  refuses : (r : commands.Refusal) → First by old text tell_body (TellCases by old asked) r → Refuses by old text Tell r
  refuses commands.NoQuestion h = absurd h.0.4
  refuses commands.Evaluation h = inl (is_first commands.Evaluation h)
  refuses commands.Depth h = to_asked commands.Depth h.0
  refuses r h = is_first r h

  lacks_memory : Step by old Tell text (Refused commands.Memory) old
  lacks_memory = (some_asked, refl)

  -- ---- a body that isn't read

  pub unread_tell : (r : Refusal) → ReadsBody by text (Err r) → Step by old Tell text (Refused (refusal_of r)) old
  unread_tell Text h = (refuses commands.Text (no_text by old text tell_body (TellCases by old asked) (λ b x. x) h), refl)
  unread_tell Depth h = (inl (to_asked commands.Depth h), refl)
  unread_tell NotRestricted h = (refuses commands.NotRestricted (not_restricted by old text tell_body (TellCases by old asked) (λ b x. x) once h.0 h.1 h.2 h.3), refl)
  unread_tell Memory h = lacks_memory
  unread_tell r h = absurd h

  module _ (tree : Tree) (reads : IsBodyWithin by by.depth text tree) (low : height tree ≤ by.depth) (restricted : is_restricted tree ≡ true) where
    too_low : by.depth < height tree → ⊥
    too_low high = omega arith

    -- ---- a body that tells nothing

    tell_first : (fs : Fields) → tell_body tree ≡ Some fs → (r : commands.Refusal) → 5 < rank r → TellCases by old asked fs r → ((s : commands.Refusal) → rank s < rank r → TellCases by old asked fs s → ⊥) → First by old text tell_body (TellCases by old asked) r
    tell_first fs says r late holds before = stands_first by old text tell_body (TellCases by old asked) (λ b x. x) once tree reads low restricted fs says r late holds before

    pub untold : (r : Refusal) → TellsBody by asked.question asked.told by.depth tree (Err r) → Step by old Tell text (Refused (refusal_of r)) old
    untold Shape h = (refuses commands.Shape (misshapen by old text tell_body (TellCases by old asked) (λ b x. x) once tree reads low restricted h), refl)
    untold Evaluation h = (refuses commands.Evaluation (tell_first h.0 h.1 commands.Evaluation (omega arith) h.2 before), refl)
      where
        before : (s : commands.Refusal) → rank s < 6 → TellCases by old asked h.0 s → ⊥
        before commands.Evaluation lt x = not_below 6 lt
        before commands.NotAValue lt x = omega arith
        before commands.NoSuchUnknown lt x = omega arith
        before commands.AlreadyTold lt x = omega arith
        before commands.WrongKind lt x = omega arith
        before s lt x = x
    untold NotAValue h = (refuses commands.NotAValue (tell_first h.0 h.1 commands.NotAValue (omega arith) h.2.1 before), refl)
      where
        before : (s : commands.Refusal) → rank s < 7 → TellCases by old asked h.0 s → ⊥
        before commands.Evaluation lt x = not_both _ h.2.0 x
        before commands.NotAValue lt x = not_below 7 lt
        before commands.NoSuchUnknown lt x = omega arith
        before commands.AlreadyTold lt x = omega arith
        before commands.WrongKind lt x = omega arith
        before s lt x = x
    untold NoSuchUnknown h = (refuses commands.NoSuchUnknown (tell_first h.0 h.1 commands.NoSuchUnknown (omega arith) h.2.1 before), refl)
      where
        before : (s : commands.Refusal) → rank s < 20 → TellCases by old asked h.0 s → ⊥
        before commands.Evaluation lt x = not_both _ h.2.0.fine x
        before commands.NotAValue lt x = not_both _ h.2.0.known x
        before commands.NoSuchUnknown lt x = not_below 20 lt
        before commands.AlreadyTold lt x = omega arith
        before commands.WrongKind lt x = omega arith
        before s lt x = x
    untold AlreadyTold h = (refuses commands.AlreadyTold (tell_first h.0 h.1 commands.AlreadyTold (omega arith) h.2.1 before), refl)
      where
        before : (s : commands.Refusal) → rank s < 21 → TellCases by old asked h.0 s → ⊥
        before commands.Evaluation lt x = not_both _ h.2.0.fine.fine x
        before commands.NotAValue lt x = not_both _ h.2.0.fine.known x
        before commands.NoSuchUnknown lt x = not_both _ h.2.0.named x
        before commands.AlreadyTold lt x = not_below 21 lt
        before commands.WrongKind lt x = omega arith
        before s lt x = x
    untold WrongKind h = (refuses commands.WrongKind (tell_first h.0 h.1 commands.WrongKind (omega arith) h.2.1 before), refl)
      where
        before : (s : commands.Refusal) → rank s < 22 → TellCases by old asked h.0 s → ⊥
        before commands.Evaluation lt x = not_both _ h.2.0.named.fine.fine x
        before commands.NotAValue lt x = not_both _ h.2.0.named.fine.known x
        before commands.NoSuchUnknown lt x = not_both _ h.2.0.named.named x
        before commands.AlreadyTold lt x = not_both _ h.2.0.new x
        before commands.WrongKind lt x = not_below 22 lt
        before s lt x = x
    untold Depth h = absurd (too_low h)
    untold Memory h = lacks_memory
    untold r h = absurd h

    -- ---- values that nothing refuses but, perhaps, the context

    module _ (fs : Fields) (says : tell_body tree ≡ Some fs) (all : Told) (more : TellMore by asked.question asked.told fs all) where
      same_values : (vs : Portion) → values by fs ≡ Some vs → vs ≡ more.portion
      same_values vs are = same_some vs more.portion (sym are ∙ more.are)

      cases : (r : commands.Refusal) → TellCases by old asked fs r → ⊥
      cases commands.Evaluation h = not_both _ more.new.named.fine.fine h
      cases commands.NotAValue h = not_both _ more.new.named.fine.known h
      cases commands.NoSuchUnknown h = not_both _ more.new.named.named h
      cases commands.AlreadyTold h = not_both _ more.new.new h
      cases commands.WrongKind h = not_both _ more.kinds (subst (λ (vs : Portion). are_of_other_kinds by asked.question asked.told fs vs ≡ true) (same_values h.0 h.1) h.2)
      cases r h = h

      stands : (r : commands.Refusal) → Stands by old text Tell r → ⊥
      stands r h = stands_not by old text tell_body (TellCases by old asked) (λ b x. x) once tree reads low restricted fs says r (cases r) (of_asked r h)

      -- the context errs with all that is told
      pub context_fails : context_errs by asked.question.context all ≡ true → Step by old Tell text (Refused commands.Evaluation) old
      context_fails errs = (
        inr (
          stands,
          asked,
          tree,
          fs,
          was_open,
          (by.depth, reads),
          says,
          (more.portion, more.are, subst (λ t. context_errs by asked.question.context t ≡ true) more.all_is errs),
        ),
        refl,
      )

      same_fields : (t : Tree) (f : Fields) → IsBody by text t → tell_body t ≡ Some f → f ≡ fs
      same_fields t f is states = same_some f fs (sym states ∙ ap tell_body (once text t tree is (by.depth, reads)) ∙ says)

      all_same : (t : Tree) (f : Fields) (vs : Portion) → IsBody by text t → tell_body t ≡ Some f → values by f ≡ Some vs → all ≡ told_with asked.told vs
      all_same t f vs is states are = more.all_is ∙ ap (told_with asked.told) (sym (same_values vs (ap (values by) (sym (same_fields t f is states)) ∙ are)))

      -- an evaluation met the limit, where something is evaluated that is too deep
      pub too_deep : SomeInForce old ⊎ HasOpenContext asked.question → TellsTooDeep by old asked.question all → Step by old Tell text (Refused commands.Depth) old
      too_deep evaluates deep =
          (inr (stands, (asked, was_open, evaluates, λ t f vs is states are. subst (TellsTooDeep by old asked.question) (all_same t f vs is states are) deep)), refl)

      pub no_memory : Step by old Tell text (Refused commands.Memory) old
      no_memory = lacks_memory

      -- ---- the answer

      module _ (fine : context_errs by asked.question.context all ≡ false) where
        errs_not : (a : Asked) (t : Tree) (f : Fields) → old.asked ≡ Some a → IsBody by text t → tell_body t ≡ Some f → ContextErrs by old a f → ⊥
        errs_not a t f is read states h =
            let here : ContextErrs by old asked fs =
            subst (λ x. ContextErrs by old x fs) (same_some a asked (sym is ∙ was_open)) (subst (λ x. ContextErrs by old a x) (same_fields t f read states) h) in
            not_both _ fine (ap (context_errs by asked.question.context) (more.all_is ∙ ap (told_with asked.told) (sym (same_values here.0 here.1))) ∙ here.2)

        not_refused : (r : commands.Refusal) → Refuses by old text Tell r → ⊥
        not_refused commands.NoQuestion h = not_none asked (sym h ∙ was_open)
        not_refused commands.Depth h = stands commands.Depth h
        not_refused commands.Evaluation (inl h) = stands commands.Evaluation h.0
        not_refused commands.Evaluation (inr h) = errs_not h.1 h.2 h.3 h.4 h.5 h.6 h.7
        not_refused r h = stands r h.0

        pub told : (answer : world.Answer) → IsLaterAnswer by old asked all answer → Step by old Tell text (Answered answer) (opens old asked.question all answer)
        told answer later = (
          not_refused,
          (
            tree,
            fs,
            (by.depth, reads),
            says,
            (asked, more.portion, was_open, more.are, subst (λ t. IsLaterAnswer by old asked t answer) more.all_is later, ap (λ t. opens old asked.question t answer) more.all_is),
          ),
        )
