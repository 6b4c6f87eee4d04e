-- Data with values written in the places of its unknowns is answered as where these values are held.
use Rattle.std.proofs.Common.{◌≡◌, ◌∙◌, ap, sym, refl, subst, List, [], ◌∷◌, ℕ, ◌<◌}
use Rattle.std.specs.FinMap.{get-empty}
use Rattle.std.specs.Prelude.{pos, Bool, true, false, ◌&&◌, ◌||◌, Option, None, Some, Result, Ok, Err}
use Rattle.std.specs.declared.alloc.Global.{Global}
use Rattle.std.specs.declared.rc.RcStr.{RcStr}
use Rattle.cedar_language.specs.Facts.{Facts}
use Rattle.cedar_language.specs.Height.{height}
use Rattle.cedar_language.specs.Order.{text_cmp}
use Rattle.cedar_language.specs.Restricted.{is_restricted, are_restricted}
use Rattle.cedar_language.specs.Sets.{SetsAreFinite}
use Rattle.cedar_language.specs.Constructing.{the_constructor, longs_of, construction}
use Rattle.cedar_language.specs.Tree.{Boolean, Long, Entity, ValueType, MakeSet, MakeRecord, Call, Tree, Lit, Unknown, Apply, Trees, no_trees, a_tree}
use Rattle.cedar_language.specs.Uid.{Text, Name}
use Rattle.cedar_language.specs.Value.{Extension, Value, Plain, SetOf, RecordOf, ExtensionOf, Values, no_values, a_value}
use Rattle.cedar_partial_evaluation.specs.MadeAgain.{long_values, IsMadeAgain, AreMadeAgain}
use Rattle.cedar_partial_evaluation.specs.Partial.{Evaluated, Failed, Answers, AllEvaluated, SomeResiduals, SomeFailed, LeafAnswers, answer_of, and_next, apply_answer, partial_in, all_partial_in}
use Rattle.cedar_partial_evaluation.specs.Question.{Told, AreMadeTold, held_names, name_held, value_held}
use Rattle.cedar_partial_evaluation.specs.ReadUnknowns.{is_unknown_call, calls_unknown, some_calls_unknown}
use Rattle.cedar_partial_evaluation.specs.Unknowns.{fits, EachUnknownOf}
use Rattle.cedar_extensions.specs.Failures.{failure_of}
use Rattle.cedar_extensions.specs.Giving.{GivesBy, fails_on}
use Rattle.cedar_extensions.specs.Table.{Table}
use Rattle.cedar_extensions.specs.declared.evaluation_error.EvaluationError.{EvaluationError}
use Rattle.cedar_restricted.specs.Expressing.{Expresses, ExpressAll}
use Rattle.cedar_restricted.specs.Laws.{WrittenValuesAreGround, GroundTreesAreRestricted}
use Rattle.cedar_restricted_evaluation.specs.Evaluations.{HasFunctions, nothing_told, answer_in, answers_in, part_answer}
use Rattle.cedar_restricted_evaluation.proofs.WrittenNames.{call_answered}
use Rattle.cedar_substitution.specs.Told.{told_for}
use Rattle.cedar_substitution.specs.Typed.{StandsFor, Tells, SubstitutesValues}
use Rattle.cedar_requests.specs.Contexts.{context_part}
use Rattle.cedar_requests.specs.Telling.{OfSubstituted, TellsRecord}
use Rattle.cedar_requests.specs.ToldContexts.{HoldTold, StatesNoType, ToldContextsAreEvaluated}
use Rattle.cedar_requests.specs.declared.contexts.Context.{Context}
use Rattle.cedar_requests.proofs.PutIn.{put_in, all_put_in, substituted_is}
use Rattle.cedar_requests.proofs.Untyped.{untyped_fits}
pub use Rattle.cedar_lemmas.proofs.Booleans.{and_first as and_left, and_second as and_right}
use Rattle.cedar_lemmas.proofs.Booleans.{or_first as or_left, or_second as or_right}

-- ---- operators that build a value of all that they are given look at no leaves

module _ (facts : Facts) (one other : LeafAnswers) where
  set_alike : (as_ : Answers) → apply_answer facts one MakeSet as_ ≡ apply_answer facts other MakeSet as_
  set_alike (AllEvaluated vs) = refl
  set_alike (SomeResiduals rs) = refl
  set_alike (SomeFailed k) = refl

  record_alike : (ks : List Text) (as_ : Answers) → apply_answer facts one (MakeRecord ks) as_ ≡ apply_answer facts other (MakeRecord ks) as_
  record_alike ks (AllEvaluated vs) = refl
  record_alike ks (SomeResiduals rs) = refl
  record_alike ks (SomeFailed k) = refl

  call_alike : (f : Name) (as_ : Answers) → apply_answer facts one (Call f) as_ ≡ apply_answer facts other (Call f) as_
  call_alike f (AllEvaluated vs) = refl
  call_alike f (SomeResiduals rs) = refl
  call_alike f (SomeFailed k) = refl

-- ---- an extension value that is constructed again

module _ (table : Table) (facts : Facts) where
  longs_answer : (bs : List ℕ) → answers_in table facts (longs_of bs) ≡ AllEvaluated (long_values bs)
  longs_answer [] = refl
  longs_answer (n ∷ bs) = ap (and_next facts (Evaluated (Plain (Long (pos n))))) (longs_answer bs)

  constructed_answer : (e : Extension) → IsMadeAgain facts (ExtensionOf e) → answer_in table facts (construction e) ≡ Evaluated (ExtensionOf e)
  constructed_answer e made =
      call_answered table facts the_constructor (λ is. refl) (parts_written e)
      ∙ ap (λ vs. apply_answer facts nothing_told (Call the_constructor) (and_next facts (Evaluated (Plain (Entity (record { type_name = e.type_name; id = [] })))) (and_next facts (Evaluated (Plain (Boolean e.ordered))) vs))) (longs_answer e.key)
      ∙ ap answer_of made
    where
      parts_written : Extension → Trees
      parts_written x = a_tree (Lit (Entity (record { type_name = x.type_name; id = [] }))) (a_tree (Lit (Boolean x.ordered)) (longs_of x.key))

module _ (finite_sets : SetsAreFinite) (table : Table) (facts : Facts) where
  -- ---- a value that is written

  mutual
    written_answer : (v : Value) (t : Tree) → IsMadeAgain facts v → Expresses v t → answer_in table facts t ≡ Evaluated v
    written_answer (Plain l) t m h = ap (answer_in table facts) h
    written_answer (SetOf vs) t m (ts, is, each) =
        ap (answer_in table facts) is ∙ ap (apply_answer facts nothing_told MakeSet) (written_answers vs ts m.1 each) ∙ ap (λ us. Evaluated (SetOf us)) (finite_sets.kept vs m.0)
    written_answer (RecordOf ks vs) t m (ts, is, each) =
        ap (answer_in table facts) is ∙ ap (apply_answer facts nothing_told (MakeRecord ks)) (written_answers vs ts m each)
    written_answer (ExtensionOf e) t m h = ap (answer_in table facts) h ∙ constructed_answer table facts e m

    written_answers : (vs : Values) (ts : Trees) → AreMadeAgain facts vs → ExpressAll vs ts → answers_in table facts ts ≡ AllEvaluated vs
    written_answers no_values no_trees m h = refl
    written_answers no_values (a_tree t ts) m h = absurd h
    written_answers (a_value v vs) no_trees m h = absurd h
    written_answers (a_value v vs) (a_tree t ts) m h =
        ap (λ a. and_next facts a (answers_in table facts ts)) (written_answer v t m.0 h.0) ∙ ap (and_next facts (Evaluated v)) (written_answers vs ts m.1 h.1)

  stands_answer : (o : Option Value) (n : Text) (ty : Option ValueType) (t : Tree) → ty ≡ None → StandsFor o n ty t → ((v : Value) → o ≡ Some v → IsMadeAgain facts v) → answer_in table facts t ≡ name_held o n ty
  stands_answer None n ty t e h m = ap (answer_in table facts) h ∙ ap (λ o. name_held o n ty) (get-empty text_cmp n)
  stands_answer (Some v) n ty t e h m = written_answer v t (m v refl) h ∙ sym (ap (λ x. value_held (fits x v) v) e)

  -- ---- data

  module _ (entries : List (RcStr Global × Value)) (told : Told) (same : HoldTold entries told) (made : AreMadeTold facts told) (f : Text → Option ValueType → Tree) (tells : Tells entries f) where
    mutual
      put_answer : (t : Tree) → is_restricted t ≡ true → StatesNoType t → (table.has_unknown ≡ true → calls_unknown t ≡ false) → answer_in table facts (put_in f t) ≡ partial_in facts (held_names told) t
      put_answer (Lit l) d s c = refl
      put_answer (Unknown n ty) d s c =
          stands_answer (told_for entries n) n ty (f n ty) s (tells n ty) (λ v is. made n v (same n ∙ is))
          ∙ ap (λ o. name_held o n ty) (sym (same n))
      put_answer (Apply MakeSet ts) d s c =
          set_alike facts nothing_told (held_names told) (answers_in table facts (all_put_in f ts))
          ∙ ap (apply_answer facts (held_names told) MakeSet) (put_answers ts d s c)
      put_answer (Apply (MakeRecord ks) ts) d s c =
          record_alike facts nothing_told (held_names told) ks (answers_in table facts (all_put_in f ts))
          ∙ ap (apply_answer facts (held_names told) (MakeRecord ks)) (put_answers ts d s c)
      put_answer (Apply (Call g) ts) d s c =
          call_answered table facts g (λ is. or_left (is_unknown_call (Call g)) (some_calls_unknown ts) (c is)) (all_put_in f ts)
          ∙ call_alike facts nothing_told (held_names told) g (answers_in table facts (all_put_in f ts))
          ∙ ap (apply_answer facts (held_names told) (Call g)) (put_answers ts d s (λ is. or_right (is_unknown_call (Call g)) (some_calls_unknown ts) (c is)))
      put_answer t d s c = cc

      put_answers : (ts : Trees) → are_restricted ts ≡ true → EachUnknownOf (λ n ty. ty ≡ None) ts → (table.has_unknown ≡ true → some_calls_unknown ts ≡ false) → answers_in table facts (all_put_in f ts) ≡ all_partial_in facts (held_names told) ts
      put_answers no_trees d s c = refl
      put_answers (a_tree t ts) d s c =
          ap (λ a. and_next facts a (answers_in table facts (all_put_in f ts))) (put_answer t (and_left (is_restricted t) (are_restricted ts) d) s.0 (λ is. or_left (calls_unknown t) (some_calls_unknown ts) (c is)))
          ∙ ap (and_next facts (partial_in facts (held_names told) t)) (put_answers ts (and_right (is_restricted t) (are_restricted ts) d) s.1 (λ is. or_right (calls_unknown t) (some_calls_unknown ts) (c is)))

-- ---- contexts

module _ (finite_sets : SetsAreFinite) (written : WrittenValuesAreGround) (ground : GroundTreesAreRestricted) (table : Table) (depth : ℕ) (entries : List (RcStr Global × Value)) (told : Told) (same : HoldTold entries told)
    (t : Tree) (d : is_restricted t ≡ true) (s : StatesNoType t) (c : table.has_unknown ≡ true → calls_unknown t ≡ false) (facts : Facts) (has : HasFunctions table facts) (made : AreMadeTold facts told) where
  substituted_answer : (u : Tree) → SubstitutesValues entries t u → answer_in table facts u ≡ partial_in facts (held_names told) t
  substituted_answer u (f, tells, is) =
      ap (answer_in table facts) (substituted_is written ground entries f tells t u d is.rising is.made)
      ∙ put_answer finite_sets table facts entries told same made f tells t d s c

  told_result : (result : Result Context EvaluationError) → TellsRecord table depth entries t None result
      → GivesBy (λ x. part_answer (context_part x) ≡ partial_in facts (held_names told) t) (λ k. partial_in facts (held_names told) t ≡ Failed k) (OfSubstituted entries t (λ u. depth < height u)) result
  told_result (Ok x) (u, puts, is) = sym (is.answer facts has) ∙ substituted_answer u puts
  told_result (Err e) h = fails_on (failure_of e) (λ k g. sym (substituted_answer g.0 g.1) ∙ g.2.answer facts has) (λ x. x) h

pub told_contexts : SetsAreFinite → WrittenValuesAreGround → GroundTreesAreRestricted → ToldContextsAreEvaluated
told_contexts finite_sets written ground = λ table depth entries told same t d s c result h facts has made.
    told_result finite_sets written ground table depth entries told same t d s c facts has made result
    (subst (λ types. TellsRecord table depth entries t types result) (untyped_fits entries t s) h)
