-- Residuals and contexts evaluated again.
use Rattle.std.proofs.Common.{◌≡◌, true, Option, Some, None, refl, sym, ◌∙◌, Bool, false, ap}
use Rattle.std.proofs.lemmas.Bool.{and_parts}
use Rattle.std.specs.FinMap as finite
use Rattle.cedar_language.specs.Uid.{Text}
use Rattle.cedar_language.specs.Tree.{Operator, Tree, Lit, Unknown, Apply, Trees, no_trees, a_tree, ValueType}
use Rattle.cedar_language.specs.Value.{Value, Outcome, Gives, Fails}
use Rattle.cedar_language.specs.Facts.{Facts}
use Rattle.cedar_language.specs.Operators.{applied}
use Rattle.cedar_partial_evaluation.specs.Settling.{Below, settled_in}
use Rattle.cedar_partial_evaluation.specs.MadeAgain.{IsMadeAgain, HoldsMade}
use Rattle.cedar_partial_evaluation.specs.Partial.{Answer, Evaluated, ResidualTree, Failed, Answers, AllEvaluated, SomeResiduals, SomeFailed, answer_of, best_effort, and_next, apply_answer, partial_in, all_partial_in}
use Rattle.cedar_partial_evaluation.specs.Fair.{IsMadeAnswer}
use Rattle.cedar_partial_evaluation.specs.Question.{Told, value_held, name_held, held_names, settled_of, held_of, Extends, AreMadeTold, is_restricted, are_restricted}
use Rattle.cedar_partial_evaluation.specs.Unknowns.{fits}
use Rattle.cedar_partial_evaluation.specs.Filling.{request_filled, filled}
use Rattle.cedar_language.specs.Meaning.{meaning}
use Rattle.cedar_partial_evaluation.specs.Telling.{ToldAreRead, SettledIsMeant, LaterAnswersAreFair, LaterAnswersArePrompt, ContextsStay}
use Rattle.cedar_partial_evaluation.proofs.MadeAgain.{AreMadeAnswers, made, all_made, value_again, values_again}
use Rattle.cedar_partial_evaluation.proofs.Passing.{Stays, data_in}
use Rattle.cedar_partial_evaluation.proofs.Carried.{below_is, below_trans}
use Rattle.cedar_partial_evaluation.proofs.Seam.{residuals_settle}
use Rattle.cedar_partial_evaluation.proofs.Question.{meets_below, meets_read, telling_carries, held_made, names_made}
use Rattle.cedar_partial_evaluation.proofs.Filling.{below_closed, means_filled, reads_below, answers_are_fair, answers_prompt}

pub told_are_read : ToldAreRead
told_are_read = record {
  fitting = λ facts q slots told n ty v e fit. rw (e, fit) refl;
  other = λ facts q slots told n ty v e fit. rw (e, fit) refl;
}

pub settled_is_meant : SettledIsMeant
settled_is_meant facts good q slots told filling known extends are_made ok fills t given =
    below_trans _ _ _
    (meets_read facts (filled facts q slots filling) _ (settled_in facts (settled_of facts q slots told) t) (partial_in facts (held_of facts q slots told) t) (answers_prompt facts good q slots told are_made ok t))
    (below_is _ _ (sym (answers_are_fair facts good q slots told filling known extends are_made fills t given)))

pub later_answers_are_fair : LaterAnswersAreFair
later_answers_are_fair facts good q slots told later filling known e further are_made then_made fills t r given h =
    let first : settled_in facts (filled facts q slots filling) t ≡ settled_in facts (filled facts q slots filling) r =
    rw h at (answers_are_fair facts good q slots told filling known (λ n v i. further n v (e n v i)) are_made fills t given) in
    first ∙ below_closed _ _ (meaning facts (request_filled known slots filling) t) (sym first ∙ means_filled facts q filling known fills slots t given)
    (reads_below facts q filling known fills good slots later further then_made r)

pub later_answers_are_prompt : LaterAnswersArePrompt
later_answers_are_prompt facts good q slots told later e are_made then_made now then t r h =
    let carried : Below (settled_in facts (settled_of facts q slots later) t) (settled_in facts (settled_of facts q slots later) r) =
    rw h at (residuals_settle facts good (settled_of facts q slots later) (held_of facts q slots told) (telling_carries facts good q slots told later e are_made now then) (held_made facts good q slots told are_made) t) in
    below_trans _ (settled_in facts (settled_of facts q slots later) r) _ carried
    (meets_below _ _ _ (answers_prompt facts good q slots later then_made then r))

module _ (facts : Facts) (good : HoldsMade facts) (told later : Told) (extends : Extends told later) (are_made : AreMadeTold facts told) (then_made : AreMadeTold facts later) where
  -- a value that doesn't fit is refused again
  told_again : (n : Text) (ty : Option ValueType) (v : Value) (b : Bool) → fits ty v ≡ b → finite.get later n ≡ Some v → IsMadeAgain facts v →
      partial_in facts (held_names later) (best_effort facts (value_held b v) (Unknown n ty)) ≡ value_held b v
  told_again n ty v true fit l m = value_again facts (held_names later) v m
  told_again n ty v false fit l m = rw (l, fit) refl

  name_again : (n : Text) (ty : Option ValueType) (o : Option Value) → finite.get told n ≡ o →
      partial_in facts (held_names later) (best_effort facts (name_held o n ty) (Unknown n ty)) ≡ name_held (finite.get later n) n ty
  name_again n ty (Some v) h = told_again n ty v (fits ty v) refl (extends n v h) (are_made n v h) ∙ ap (λ (o : Option Value). name_held o n ty) (sym (extends n v h))
  name_again n ty None h = refl

  -- how operands stand once more values are told
  abbrev StandAgain : Trees → Answers → Type 0
  StandAgain ts (AllEvaluated vs) = all_partial_in facts (held_names later) ts ≡ AllEvaluated vs
  StandAgain ts (SomeResiduals rs) = all_partial_in facts (held_names later) rs ≡ all_partial_in facts (held_names later) ts
  StandAgain ts (SomeFailed k) = Unit {0}

  abbrev StandsAgain : Tree → Answer → Type 0
  StandsAgain t p = partial_in facts (held_names later) (best_effort facts p t) ≡ partial_in facts (held_names later) t

  next_again : (t : Tree) (ts : Trees) (p : Answer) (ps : Answers) → IsMadeAnswer facts p → AreMadeAnswers facts good ps → StandsAgain t p → StandAgain ts ps → StandAgain (a_tree t ts) (and_next facts p ps)
  next_again t ts (Failed k) ps m n h i = tt
  next_again t ts (Evaluated v) (AllEvaluated vs) m n h i = let e : partial_in facts (held_names later) t ≡ Evaluated v = sym h ∙ value_again facts (held_names later) v m in rw (e, i) refl
  next_again t ts (Evaluated v) (SomeResiduals rs) m n h i = rw (h, i) refl
  next_again t ts (Evaluated v) (SomeFailed k) m n h i = tt
  next_again t ts (ResidualTree r) (AllEvaluated vs) m n h i = rw (h, values_again facts (held_names later) vs n, i) refl
  next_again t ts (ResidualTree r) (SomeResiduals rs) m n h i = rw (h, i) refl
  next_again t ts (ResidualTree r) (SomeFailed k) m n h i = tt

  outcome_again : (t : Tree) (o : Outcome) → IsMadeAnswer facts (answer_of o) → partial_in facts (held_names later) t ≡ answer_of o → StandsAgain t (answer_of o)
  outcome_again t (Gives v) m h = value_again facts (held_names later) v m ∙ sym h
  outcome_again t (Fails k) m h = refl

  operator_again : (op : Operator) (ts : Trees) (ps : Answers) → Stays op → IsMadeAnswer facts (apply_answer facts (held_names told) op ps) → StandAgain ts ps → StandsAgain (Apply op ts) (apply_answer facts (held_names told) op ps)
  operator_again op ts (AllEvaluated vs) stays m h = outcome_again (Apply op ts) (applied facts op vs) m (ap (apply_answer facts (held_names later) op) h)
  operator_again op ts (SomeResiduals rs) stays m h = rw (stays facts (held_names told) rs) (ap (apply_answer facts (held_names later) op) h)
  operator_again op ts (SomeFailed k) stays m h = refl

  was_made : (t : Tree) → IsMadeAnswer facts (partial_in facts (held_names told) t)
  was_made t = made facts good (held_names told) (names_made facts told are_made) t

  mutual
    again : (t : Tree) → is_restricted t ≡ true → StandsAgain t (partial_in facts (held_names told) t)
    again (Lit l) h = refl
    again (Unknown n ty) h = name_again n ty (finite.get told n) refl
    again (Apply op ts) h =
        let (hs, stays) = data_in op ts h in
        operator_again op ts (all_partial_in facts (held_names told) ts) stays (was_made (Apply op ts)) (all_again ts hs)
    again _ h = cc

    all_again : (ts : Trees) → are_restricted ts ≡ true → StandAgain ts (all_partial_in facts (held_names told) ts)
    all_again no_trees h = refl
    all_again (a_tree t ts) h =
        let (ht, hts) = and_parts (is_restricted t) (are_restricted ts) h in
        next_again t ts (partial_in facts (held_names told) t) (all_partial_in facts (held_names told) ts) (was_made t)
        (all_made facts good (held_names told) (names_made facts told are_made) ts) (again t ht) (all_again ts hts)

pub contexts_stay : ContextsStay
contexts_stay facts good told later extends are_made then_made t h = again facts good told later extends are_made then_made t h
