-- What is left of data: data again, in which no unknown states a type where none did.
use Rattle.std.proofs.Common.{◌≡◌, refl, ℕ, Bool, true, ◌&&◌, List, [], ◌∷◌, Option, None}
use Rattle.std.specs.Prelude.{pos}
use Rattle.cedar_language.specs.Facts.{Facts}
use Rattle.cedar_language.specs.Operators.{applied}
use Rattle.cedar_language.specs.Restricted.{is_restricted, are_restricted}
use Rattle.cedar_language.specs.Constructing.{longs_of}
use Rattle.cedar_language.specs.Tree.{Long, MakeSet, MakeRecord, Call, Tree, Lit, Unknown, Apply, Trees, no_trees, a_tree, ValueType}
use Rattle.cedar_language.specs.Uid.{Text, Name}
use Rattle.cedar_language.specs.Value.{Value, Plain, SetOf, RecordOf, ExtensionOf, Values, no_values, a_value, Outcome, Gives, Fails}
use Rattle.cedar_partial_evaluation.specs.MadeAgain.{tree_of, trees_of}
use Rattle.cedar_partial_evaluation.specs.Partial.{Answer, Evaluated, ResidualTree, Failed, Answers, AllEvaluated, SomeResiduals, SomeFailed, answer_of, LeafAnswers, and_next, apply_answer, partial_in, all_partial_in}
use Rattle.cedar_partial_evaluation.specs.Unknowns.{EachUnknown, EachUnknownOf}
use Rattle.cedar_requests.proofs.ToldAnswers.{and_left, and_right}
use Rattle.std.proofs.lemmas.Bool.{and_from as and_both}

abbrev pub Untyped : Tree → Type 0
Untyped t = EachUnknown (λ n ty. ty ≡ None) t

abbrev AllUntyped : Trees → Type 0
AllUntyped ts = EachUnknownOf (λ n ty. ty ≡ None) ts

abbrev pub IsDataTree : Tree → Type 0
IsDataTree t = (is_restricted t ≡ true) × Untyped t

abbrev AreDataTrees : Trees → Type 0
AreDataTrees ts = (are_restricted ts ≡ true) × AllUntyped ts

abbrev pub IsDataAnswer : Answer → Type 0
IsDataAnswer (Evaluated v) = Unit {0}
IsDataAnswer (ResidualTree t) = IsDataTree t
IsDataAnswer (Failed k) = Unit {0}

abbrev AreDataAnswers : Answers → Type 0
AreDataAnswers (AllEvaluated vs) = Unit {0}
AreDataAnswers (SomeResiduals ts) = AreDataTrees ts
AreDataAnswers (SomeFailed k) = Unit {0}

more_data : (t : Tree) (ts : Trees) → IsDataTree t → AreDataTrees ts → AreDataTrees (a_tree t ts)
more_data t ts h k = (and_both (is_restricted t) (are_restricted ts) h.0 k.0, (h.1, k.1))

longs_data : (bs : List ℕ) → AreDataTrees (longs_of bs)
longs_data [] = (refl, tt)
longs_data (b ∷ bs) = more_data (Lit (Long (pos b))) (longs_of bs) (refl, tt) (longs_data bs)

module _ (facts : Facts) where
  mutual
    value_data : (v : Value) → IsDataTree (tree_of facts v)
    value_data (Plain l) = (refl, tt)
    value_data (SetOf vs) = values_data vs
    value_data (RecordOf ks vs) = values_data vs
    value_data (ExtensionOf e) = let longs = longs_data e.key in (longs.0, (tt, (tt, longs.1)))

    values_data : (vs : Values) → AreDataTrees (trees_of facts vs)
    values_data no_values = (refl, tt)
    values_data (a_value v vs) = more_data (tree_of facts v) (trees_of facts vs) (value_data v) (values_data vs)

  next_data : (a : Answer) (as_ : Answers) → IsDataAnswer a → AreDataAnswers as_ → AreDataAnswers (and_next facts a as_)
  next_data (Failed k) as_ h i = tt
  next_data (Evaluated v) (AllEvaluated vs) h i = tt
  next_data (Evaluated v) (SomeResiduals rs) h i = more_data (tree_of facts v) rs (value_data v) i
  next_data (Evaluated v) (SomeFailed k) h i = tt
  next_data (ResidualTree r) (AllEvaluated vs) h i = more_data r (trees_of facts vs) h (values_data vs)
  next_data (ResidualTree r) (SomeResiduals rs) h i = more_data r rs h i
  next_data (ResidualTree r) (SomeFailed k) h i = tt

  outcome_data : (o : Outcome) → IsDataAnswer (answer_of o)
  outcome_data (Gives v) = tt
  outcome_data (Fails k) = tt

  module _ (holds : LeafAnswers) (names : (n : Text) (ty : Option ValueType) → ty ≡ None → IsDataAnswer (holds.unknown n ty)) where
    set_data : (as_ : Answers) → AreDataAnswers as_ → IsDataAnswer (apply_answer facts holds MakeSet as_)
    set_data (AllEvaluated vs) h = outcome_data (applied facts MakeSet vs)
    set_data (SomeResiduals rs) h = h
    set_data (SomeFailed k) h = tt

    record_data : (ks : List Text) (as_ : Answers) → AreDataAnswers as_ → IsDataAnswer (apply_answer facts holds (MakeRecord ks) as_)
    record_data ks (AllEvaluated vs) h = outcome_data (applied facts (MakeRecord ks) vs)
    record_data ks (SomeResiduals rs) h = h
    record_data ks (SomeFailed k) h = tt

    call_data : (f : Name) (as_ : Answers) → AreDataAnswers as_ → IsDataAnswer (apply_answer facts holds (Call f) as_)
    call_data f (AllEvaluated vs) h = outcome_data (applied facts (Call f) vs)
    call_data f (SomeResiduals rs) h = h
    call_data f (SomeFailed k) h = tt

    mutual
      pub left_data : (t : Tree) → is_restricted t ≡ true → Untyped t → IsDataAnswer (partial_in facts holds t)
      left_data (Lit l) r u = tt
      left_data (Unknown n ty) r u = names n ty u
      left_data (Apply MakeSet ts) r u = set_data (all_partial_in facts holds ts) (all_left_data ts r u)
      left_data (Apply (MakeRecord ks) ts) r u = record_data ks (all_partial_in facts holds ts) (all_left_data ts r u)
      left_data (Apply (Call f) ts) r u = call_data f (all_partial_in facts holds ts) (all_left_data ts r u)
      left_data t r u = cc

      all_left_data : (ts : Trees) → are_restricted ts ≡ true → AllUntyped ts → AreDataAnswers (all_partial_in facts holds ts)
      all_left_data no_trees r u = tt
      all_left_data (a_tree t ts) r u =
          next_data (partial_in facts holds t) (all_partial_in facts holds ts)
          (left_data t (and_left (is_restricted t) _ r) u.0) (all_left_data ts (and_right (is_restricted t) _ r) u.1)
