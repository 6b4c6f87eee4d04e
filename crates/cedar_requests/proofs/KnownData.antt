-- Data that has a value, with nothing told, has no unknown.
use Rattle.std.proofs.Common.{◌≡◌, ◌∙◌, refl, sym, Bool, true, false, ◌&&◌, Option, Some, None, List}
use Rattle.std.specs.FinMap as finite
use Rattle.std.specs.FinMap.{get-empty}
use Rattle.cedar_language.specs.Facts.{Facts}
use Rattle.cedar_language.specs.Order.{text_cmp}
use Rattle.cedar_language.specs.Restricted.{is_restricted, are_restricted}
use Rattle.cedar_language.specs.Tree.{MakeSet, MakeRecord, Call, Tree, Lit, Unknown, Apply, Trees, no_trees, a_tree, ValueType}
use Rattle.cedar_language.specs.Uid.{Text, Name}
use Rattle.cedar_language.specs.Value.{Value}
use Rattle.cedar_partial_evaluation.specs.Leaves.{LeavesDontMatter}
use Rattle.cedar_partial_evaluation.specs.Mentions.{mentions_only, all_mention_only}
use Rattle.cedar_partial_evaluation.specs.Partial.{Answer, Evaluated, ResidualTree, Failed, Answers, AllEvaluated, SomeResiduals, SomeFailed, LeafAnswers, and_next, apply_answer, partial_in, all_partial_in}
use Rattle.cedar_partial_evaluation.specs.Question.{Told, name_held, held_names}
use Rattle.cedar_requests.proofs.ToldAnswers.{and_left, and_right}
use Rattle.std.proofs.lemmas.Bool.{and_from as and_both}

abbrev mentions_none : Tree → Bool
mentions_none t = mentions_only (λ v. false) false t

abbrev all_mention_none : Trees → Bool
all_mention_none ts = all_mention_only (λ v. false) false ts

module _ (facts : Facts) where
  abbrev KnownBy : Answer → Tree → Type 0
  KnownBy (Evaluated v) t = mentions_none t ≡ true
  KnownBy (ResidualTree r) t = Unit {0}
  KnownBy (Failed k) t = Unit {0}

  abbrev AllKnownBy : Answers → Trees → Type 0
  AllKnownBy (AllEvaluated vs) ts = all_mention_none ts ≡ true
  AllKnownBy (SomeResiduals rs) ts = Unit {0}
  AllKnownBy (SomeFailed k) ts = Unit {0}

  next_known : (t : Tree) (ts : Trees) (a : Answer) (as_ : Answers) → KnownBy a t → AllKnownBy as_ ts → AllKnownBy (and_next facts a as_) (a_tree t ts)
  next_known t ts (Failed k) as_ h i = tt
  next_known t ts (Evaluated v) (AllEvaluated vs) h i = and_both (mentions_none t) (all_mention_none ts) h i
  next_known t ts (Evaluated v) (SomeResiduals rs) h i = tt
  next_known t ts (Evaluated v) (SomeFailed k) h i = tt
  next_known t ts (ResidualTree r) (AllEvaluated vs) h i = tt
  next_known t ts (ResidualTree r) (SomeResiduals rs) h i = tt
  next_known t ts (ResidualTree r) (SomeFailed k) h i = tt

  abbrev nothing : LeafAnswers
  nothing = held_names finite.empty

  known_of : (a : Answer) (t : Tree) → mentions_none t ≡ true → KnownBy a t
  known_of (Evaluated v) t h = h
  known_of (ResidualTree r) t h = tt
  known_of (Failed k) t h = tt

  set_known : (ts : Trees) (as_ : Answers) → AllKnownBy as_ ts → KnownBy (apply_answer facts nothing MakeSet as_) (Apply MakeSet ts)
  set_known ts (AllEvaluated vs) h = known_of (apply_answer facts nothing MakeSet (AllEvaluated vs)) (Apply MakeSet ts) h
  set_known ts (SomeResiduals rs) h = tt
  set_known ts (SomeFailed k) h = tt

  record_known : (ks : List Text) (ts : Trees) (as_ : Answers) → AllKnownBy as_ ts → KnownBy (apply_answer facts nothing (MakeRecord ks) as_) (Apply (MakeRecord ks) ts)
  record_known ks ts (AllEvaluated vs) h = known_of (apply_answer facts nothing (MakeRecord ks) (AllEvaluated vs)) (Apply (MakeRecord ks) ts) h
  record_known ks ts (SomeResiduals rs) h = tt
  record_known ks ts (SomeFailed k) h = tt

  call_known : (f : Name) (ts : Trees) (as_ : Answers) → AllKnownBy as_ ts → KnownBy (apply_answer facts nothing (Call f) as_) (Apply (Call f) ts)
  call_known f ts (AllEvaluated vs) h = known_of (apply_answer facts nothing (Call f) (AllEvaluated vs)) (Apply (Call f) ts) h
  call_known f ts (SomeResiduals rs) h = tt
  call_known f ts (SomeFailed k) h = tt

  left_unknown : (n : Text) (ty : Option ValueType) (o : Option Value) → o ≡ None → KnownBy (name_held o n ty) (Unknown n ty)
  left_unknown n ty None e = tt
  left_unknown n ty (Some v) e = cc

  mutual
    data_known : (t : Tree) → is_restricted t ≡ true → KnownBy (partial_in facts nothing t) t
    data_known (Lit l) r = refl
    data_known (Unknown n ty) r = left_unknown n ty (finite.get finite.empty n) (get-empty text_cmp n)
    data_known (Apply MakeSet ts) r = set_known ts (all_partial_in facts nothing ts) (all_data_known ts r)
    data_known (Apply (MakeRecord ks) ts) r = record_known ks ts (all_partial_in facts nothing ts) (all_data_known ts r)
    data_known (Apply (Call f) ts) r = call_known f ts (all_partial_in facts nothing ts) (all_data_known ts r)
    data_known t r = cc

    all_data_known : (ts : Trees) → are_restricted ts ≡ true → AllKnownBy (all_partial_in facts nothing ts) ts
    all_data_known no_trees r = refl
    all_data_known (a_tree t ts) r =
        next_known t ts (partial_in facts nothing t) (all_partial_in facts nothing ts) (data_known t (and_left (is_restricted t) _ r)) (all_data_known ts (and_right (is_restricted t) _ r))

  value_known : (a : Answer) (t : Tree) (v : Value) → KnownBy a t → a ≡ Evaluated v → mentions_none t ≡ true
  value_known (Evaluated w) t v h e = h
  value_known (ResidualTree r) t v h e = cc
  value_known (Failed k) t v h e = cc

  -- so it keeps its value whatever is told
  pub data_stays : LeavesDontMatter → (t : Tree) → is_restricted t ≡ true → (v : Value) → partial_in facts nothing t ≡ Evaluated v → (told : Told) → partial_in facts (held_names told) t ≡ Evaluated v
  data_stays law t r v e told =
      sym (law.answers facts (λ v. false) false nothing (held_names told)
      (record { variable = λ v i. absurd (impossible i); slot = λ s i. absurd (impossible i) })
      (record { variable = λ v i. refl; slot = λ s i. refl })
      t (value_known (partial_in facts nothing t) t v (data_known t r) e))
      ∙ e
    where
      impossible : false ≡ true → ⊥
      impossible i = cc
