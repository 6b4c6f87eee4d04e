-- Data of which nothing is told: what is settled of it is what is answered, and its calls that name unknowns are data too.
use Rattle.std.proofs.Common.{◌≡◌, ◌∙◌, ◌≢◌, refl, ap, sym, Bool, true, false, Option, None, codes}
use Rattle.std.specs.FinMap as map
use Rattle.std.specs.FinMap.{get-empty}
use Rattle.cedar_language.specs.Uid.{Text, Name}
use Rattle.cedar_language.specs.Order.{text_cmp}
use Rattle.cedar_language.specs.Tree.{String, Operator, MakeSet, MakeRecord, Call, Tree, Lit, Unknown, Apply, Trees, no_trees, a_tree, ValueType}
use Rattle.cedar_language.specs.Value.{Kind, Outcome, Gives, Fails}
use Rattle.cedar_language.specs.Facts.{Facts}
use Rattle.cedar_language.specs.Operators.{applied}
use Rattle.cedar_language.specs.Restricted.{is_restricted, are_restricted}
use Rattle.cedar_partial_evaluation.specs.Settling.{Errs, Settlings, SomeOpen, SomeErrs, AllAre, kindless, and_more, apply_settled, LeafSettlings, settled_in, all_settled_in}
use Rattle.cedar_partial_evaluation.specs.Partial.{Answer, Evaluated, ResidualTree, Failed, Answers, AllEvaluated, SomeResiduals, SomeFailed, answer_of, LeafAnswers, and_next, residual_answer, apply_answer, partial_in, all_partial_in}
use Rattle.cedar_partial_evaluation.specs.Prompt.{without_kind}
use Rattle.cedar_partial_evaluation.specs.Question.{name_settled, name_held, settled_names, held_names, IsAccepted, context_settled, context_held}
use Rattle.cedar_world.specs.Asking.{Entries, NoContext, WithEntries}
use Rattle.cedar_grammar.specs.UnknownCalls.{unknown_or, named_call, named, all_named}
use Rattle.cedar_world.specs.First.{IsData}
use Rattle.cedar_grammar.specs.Functions.{is_the_unknown}
use Rattle.cedar_lemmas.proofs.Booleans.{and_first as and_left, and_second as and_right}
use Rattle.std.proofs.lemmas.Bool.{and_from as and_both}

-- ---- what is settled is what is answered

abbrev without_kinds : Answers → Settlings
without_kinds (AllEvaluated vs) = AllAre vs
without_kinds (SomeResiduals rs) = SomeOpen
without_kinds (SomeFailed k) = SomeErrs

same_outcome : (o : Outcome) → kindless o ≡ without_kind (answer_of o)
same_outcome (Gives v) = refl
same_outcome (Fails k) = refl

module _ (facts : Facts) where
  abbrev around : LeafSettlings
  around = settled_names map.empty

  abbrev holds : LeafAnswers
  holds = held_names map.empty

  next_alike : (a : Answer) (as_ : Answers) → and_more (without_kind a) (without_kinds as_) ≡ without_kinds (and_next facts a as_)
  next_alike (Evaluated v) (AllEvaluated vs) = refl
  next_alike (Evaluated v) (SomeResiduals rs) = refl
  next_alike (Evaluated v) (SomeFailed k) = refl
  next_alike (ResidualTree r) (AllEvaluated vs) = refl
  next_alike (ResidualTree r) (SomeResiduals rs) = refl
  next_alike (ResidualTree r) (SomeFailed k) = refl
  next_alike (Failed j) (AllEvaluated vs) = refl
  next_alike (Failed j) (SomeResiduals rs) = refl
  next_alike (Failed j) (SomeFailed k) = refl

  applied_alike : (op : Operator) → ((rs : Trees) → residual_answer facts holds op rs ≡ ResidualTree (Apply op rs)) → (as_ : Answers)
      → apply_settled facts op (without_kinds as_) ≡ without_kind (apply_answer facts holds op as_)
  applied_alike op waits (AllEvaluated vs) = same_outcome (applied facts op vs)
  applied_alike op waits (SomeResiduals rs) = sym (ap without_kind (waits rs))
  applied_alike op waits (SomeFailed k) = refl

  unknown_alike : (n : Text) (ty : Option ValueType) → name_settled (map.get {R = text_cmp} map.empty n) ty ≡ without_kind (name_held (map.get {R = text_cmp} map.empty n) n ty)
  unknown_alike n ty = ap (λ o. name_settled o ty) (get-empty text_cmp n) ∙ sym (ap (λ o. without_kind (name_held o n ty)) (get-empty text_cmp n))

  mutual
    data_alike : (t : Tree) → is_restricted t ≡ true → settled_in facts around t ≡ without_kind (partial_in facts holds t)
    data_alike (Lit l) h = refl
    data_alike (Unknown n ty) h = unknown_alike n ty
    data_alike (Apply MakeSet ts) h = ap (apply_settled facts MakeSet) (all_data_alike ts h) ∙ applied_alike MakeSet (λ rs. refl) (all_partial_in facts holds ts)
    data_alike (Apply (MakeRecord ks) ts) h = ap (apply_settled facts (MakeRecord ks)) (all_data_alike ts h) ∙ applied_alike (MakeRecord ks) (λ rs. refl) (all_partial_in facts holds ts)
    data_alike (Apply (Call f) ts) h = ap (apply_settled facts (Call f)) (all_data_alike ts h) ∙ applied_alike (Call f) (λ rs. refl) (all_partial_in facts holds ts)
    data_alike _ h = cc

    all_data_alike : (ts : Trees) → are_restricted ts ≡ true → all_settled_in facts around ts ≡ without_kinds (all_partial_in facts holds ts)
    all_data_alike no_trees h = refl
    all_data_alike (a_tree t ts) h =
        (λ i. and_more (data_alike t (and_left _ _ h) i) (all_data_alike ts (and_right _ _ h) i))
        ∙ next_alike (partial_in facts holds t) (all_partial_in facts holds ts)

  context_alike : (c : Entries) → IsData c → context_settled facts map.empty c ≡ without_kind (context_held facts map.empty c)
  context_alike NoContext h = unknown_alike (codes "context") None
  context_alike (WithEntries ks ts) h = data_alike (Apply (MakeRecord ks) ts) h

  no_error : (a : Answer) → ((k : Kind) → a ≡ Failed k → ⊥) → without_kind a ≡ Errs → ⊥
  no_error (Evaluated v) h e = cc
  no_error (ResidualTree r) h e = cc
  no_error (Failed k) h e = h k refl

  -- data that is answered is accepted
  pub accepts : (c : Entries) → IsData c → ((k : Kind) → context_held facts map.empty c ≢ Failed k) → IsAccepted facts map.empty c
  accepts c given h = record {
    settled = λ e. no_error (context_held facts map.empty c) h (sym (context_alike c given) ∙ e);
    held = h;
  }

-- ---- calls that name unknowns

unknown_is_data : (b : Bool) (f : Name) (t : Tree) (ts : Trees) → are_restricted (a_tree t ts) ≡ true → is_restricted (unknown_or b f t ts) ≡ true
unknown_is_data true f (Lit (String n)) no_trees h = refl
unknown_is_data false f t ts h = h
unknown_is_data true f t ts h = h

call_is_data : (f : Name) (ts : Trees) → are_restricted ts ≡ true → is_restricted (named_call (Call f) ts) ≡ true
call_is_data f no_trees h = refl
call_is_data f (a_tree t ts) h = unknown_is_data (is_the_unknown f) f t ts h

mutual
  pub named_is_data : (t : Tree) → is_restricted t ≡ true → is_restricted (named t) ≡ true
  named_is_data (Lit l) h = refl
  named_is_data (Unknown n ty) h = refl
  named_is_data (Apply MakeSet ts) h = all_named_are_data ts h
  named_is_data (Apply (MakeRecord ks) ts) h = all_named_are_data ts h
  named_is_data (Apply (Call f) ts) h = call_is_data f (all_named ts) (all_named_are_data ts h)
  named_is_data t h = cc

  pub all_named_are_data : (ts : Trees) → are_restricted ts ≡ true → are_restricted (all_named ts) ≡ true
  all_named_are_data no_trees h = refl
  all_named_are_data (a_tree t ts) h = and_both _ _ (named_is_data t (and_left _ _ h)) (all_named_are_data ts (and_right _ _ h))
