-- Steps of a session that asks.
use Rattle.std.proofs.Common.{◌≡◌, inl, inr, ◌<◌, ◌≤◌, List, [], false, true, Some, Err, refl, sym, ◌∙◌, ap, subst, arith}
use Rattle.std.specs.FinMap as finite
use Rattle.cedar_language.specs.Uid as uid
use Rattle.cedar_language.specs.Tree.{Tree}
use Rattle.std.specs.declared.alloc.Global.{Global}
use Rattle.std.specs.declared.rc.RcStr.{RcStr}
use Rattle.cedar_language.specs.Height.{height}
use Rattle.cedar_language.specs.Value.{Value}
use Rattle.cedar_world.specs.World.{World}
use Rattle.cedar_world.specs.Asking.{Question}
use Rattle.cedar_world.specs.Heights.{AsksTooDeep}
use Rattle.cedar_world.specs.Bodies.{is_restricted, ask_body}
use Rattle.cedar_world.specs.Setting.{Setting, IsBodyWithin, IsBody, BodiesAreOne}
use Rattle.cedar_world.specs.Values.{context_errs, holds_bad_unknown}
use Rattle.cedar_world.specs.Commands as commands
use Rattle.cedar_world.specs.Commands.{Ask, Answered, Refused, rank}
use Rattle.cedar_world.specs.Refusals.{Refuses, Stands, AskCases}
use Rattle.cedar_world.specs.Step.{Step, IsFirstAnswer}
use Rattle.cedar_world.proofs.Parts.{same_some}
use Rattle.cedar_world.proofs.BodyCommands.{not_below, stands_not, stands_first}
use Rattle.cedar_world.proofs.LoadAndAsk.{ask_lacks_memory, ask_is_no_text, ask_is_deep, ask_is_not_restricted, ask_is_misshapen, ask_stands}
use Rattle.cedar_extensions.specs.Table.{Table}
use Rattle.cedar_replies.specs.declared.answer.Answer.{Answer}
use Rattle.cedar_replies.specs.declared.refusal.Refusal.{Refusal}
use Rattle.cedar_replies.specs.declared.refusal.Refusal.TheVariants.{Text, Depth, NotRestricted, Shape, Evaluation, BadUnknown, Memory}
use Rattle.cedar_replies.specs.Refusals.{refusal_of}
use Rattle.cedar_replies.specs.Replies.{answer_of}
use Rattle.cedar_session.specs.TextReading.{ReadsBody}
use Rattle.cedar_telling.specs.Bodies.{AsksBody}
use Rattle.cedar_asking.specs.Responses.{AnswersAsked}
use Rattle.cedar_telling.specs.Tells.{told_in}
use Rattle.cedar_session.specs.Asking.{AsksText}
use Rattle.cedar_session.specs.Open.{question_in}
use Rattle.cedar_session.proofs.Edits.{not_both}

module _ (by : Setting) (old : World) (text : uid.Text) (once : BodiesAreOne by) where
  -- ---- a body that isn't read

  unread_ask : (r : Refusal) → ReadsBody by text (Err r) → Step by old Ask text (Refused (refusal_of r)) old
  unread_ask Text h = ask_is_no_text by old text h
  unread_ask Depth h = ask_is_deep by old text h
  unread_ask NotRestricted h = ask_is_not_restricted by old text once h.0 h.1 h.2 h.3
  unread_ask Memory h = ask_lacks_memory by old text
  unread_ask r h = absurd h

  module _ (tree : Tree) (reads : IsBodyWithin by by.depth text tree) (low : height tree ≤ by.depth) (restricted : is_restricted tree ≡ true) where
    too_low : by.depth < height tree → ⊥
    too_low high = omega arith

    -- ---- a body that no request is made of

    ask_first : (q : Question) → ask_body tree ≡ Some q → (r : commands.Refusal) → 5 < rank r → AskCases by old q r → ((s : commands.Refusal) → rank s < rank r → AskCases by old q s → ⊥) → Refuses by old text Ask r
    ask_first q asks commands.Depth late holds before = absurd holds
    ask_first q asks r late holds before = stands_first by old text ask_body (AskCases by old) (λ b x. x) once tree reads low restricted q asks r late holds before

    unasked : (table : Table) (r : Refusal) → AsksBody by table by.depth tree (Err r) → Step by old Ask text (Refused (refusal_of r)) old
    unasked table Shape h = ask_is_misshapen by old text once tree reads low restricted h
    unasked table Evaluation h = (ask_first h.0 h.1 commands.Evaluation (omega arith) h.2 before, refl)
      where
        before : (s : commands.Refusal) → rank s < 6 → AskCases by old h.0 s → ⊥
        before commands.Evaluation lt x = not_below 6 lt
        before commands.BadUnknown lt x = omega arith
        before s lt x = x
    unasked table BadUnknown h = (ask_first h.0 h.1 commands.BadUnknown (omega arith) h.2.unnamed before, refl)
      where
        before : (s : commands.Refusal) → rank s < 8 → AskCases by old h.0 s → ⊥
        before commands.Evaluation lt x = not_both _ h.2.fine x
        before commands.BadUnknown lt x = not_below 8 lt
        before s lt x = x
    unasked table Depth h = absurd (too_low h)
    unasked table Memory h = ask_lacks_memory by old text
    unasked table r h = absurd h

    -- ---- a question that nothing refuses

    module _ (q : Question) (asks : ask_body tree ≡ Some q) (fine : context_errs by q.context finite.empty ≡ false) (named : holds_bad_unknown q.context ≡ false) where
      cases : (r : commands.Refusal) → AskCases by old q r → ⊥
      cases commands.Evaluation h = not_both _ fine h
      cases commands.BadUnknown h = not_both _ named h
      cases r h = h

      stands : (r : commands.Refusal) → Stands by old text Ask r → ⊥
      stands r h = stands_not by old text ask_body (AskCases by old) (λ b x. x) once tree reads low restricted q asks r (cases r) h

      -- it is the only one that the text states
      same_question : (t : Tree) (p : Question) → IsBody by text t → ask_body t ≡ Some p → p ≡ q
      same_question t p is states = same_some p q (sym states ∙ ap ask_body (once text t tree is (by.depth, reads)) ∙ asks)

      pub unanswered : (r : Refusal) → AnswersAsked by old q (Err r) → Step by old Ask text (Refused (refusal_of r)) old
      unanswered Depth h = (inr (stands, (h.0, λ t p is states. subst (AsksTooDeep by old) (sym (same_question t p is states)) h.1)), refl)
      unanswered Memory h = ask_lacks_memory by old text
      unanswered r h = absurd h

      pub states : question_in tree ≡ q
      states = rw asks refl

      pub answered : (answer kept : Answer) → kept ≡ answer → (told : List (RcStr Global × Value)) → told ≡ [] → IsFirstAnswer by old q (answer_of answer)
          → Step by old Ask text (Answered (answer_of answer)) (record old { asked = Some (record { question = question_in tree; told = told_in told; last = answer_of kept }) })
      answered answer kept same told none first =
          ask_stands by old text once tree reads low restricted q (answer_of answer) _ asks fine named first
          (ap (λ o. record old { asked = Some (record { question = o; told = told_in told; last = answer_of kept }) }) states
          ∙ ap (λ t. record old { asked = Some (record { question = q; told = told_in t; last = answer_of kept }) }) none
          ∙ ap (λ a. record old { asked = Some (record { question = q; told = finite.empty; last = answer_of a }) }) same)

  -- a text that asks nothing
  pub unasked_text : (table : Table) (r : Refusal) → AsksText by table text (Err r) → Step by old Ask text (Refused (refusal_of r)) old
  unasked_text table r (inl unread) = unread_ask r unread
  unasked_text table r (inr (tree, is)) = unasked tree is.read is.low is.restricted table r is.asks
