-- Where each name is written, a tree is answered as partial evaluation answers it, its names read.
use Rattle.std.proofs.Common.{◌≡◌, ◌∙◌, refl, ap, sym, Bool, true, false}
use Rattle.std.specs.Prelude.{◌&&◌, ◌||◌, cond, Option, Some, None}
use Rattle.cedar_language.specs.Uid.{Text, Name}
use Rattle.cedar_language.specs.Tree.{String, Operator, MakeSet, MakeRecord, Call, Tree, Lit, Unknown, Apply, Trees, no_trees, a_tree}
use Rattle.cedar_language.specs.Value.{Plain, no_values, a_value}
use Rattle.cedar_language.specs.Facts.{Facts}
use Rattle.cedar_language.specs.Restricted.{is_restricted, are_restricted}
use Rattle.cedar_partial_evaluation.specs.Partial.{Answers, AllEvaluated, SomeResiduals, SomeFailed, and_next, apply_answer, partial_in, all_partial_in}
use Rattle.cedar_grammar.specs.UnknownCalls.{unknown_or, named, all_named, named_call, holds_call, hold_call}
use Rattle.cedar_grammar.specs.Functions.{is_the_unknown}
use Rattle.cedar_extensions.specs.Table.{Table}
use Rattle.cedar_restricted_evaluation.specs.Evaluations.{nothing_told, one_text, name_called, named_or, answer_in, answers_in, named_by, WrittenNamesAreRead}
use Rattle.cedar_restricted_evaluation.proofs.Arms.{still_unknown, parts_answered}
use Rattle.cedar_lemmas.proofs.Booleans.{and_first as and_left, and_second as and_right, or_first as or_left, or_second as or_right}

-- ---- a table without `unknown`

no_names : (o : Option Text) (b c : Bool) → b ≡ false → cond (b && c) o None ≡ None
no_names o true c h = cc
no_names o false c h = refl

none_without : (table : Table) → table.has_unknown ≡ false → (op : Operator) (as_ : Answers) → name_called table op as_ ≡ None
none_without table h (Call f) (AllEvaluated vs) = no_names (one_text vs) table.has_unknown (is_the_unknown f) h
none_without table h (Call f) (SomeResiduals rs) = refl
none_without table h (Call f) (SomeFailed k) = refl
none_without table h op as_ = refl

-- ---- a call that isn't one of `unknown`

no_other_names : (o : Option Text) (b c : Bool) → c ≡ false → cond (b && c) o None ≡ None
no_other_names o b true h = cc
no_other_names o true false h = refl
no_other_names o false false h = refl

none_by_another : (table : Table) (f : Name) → is_the_unknown f ≡ false → (as_ : Answers) → name_called table (Call f) as_ ≡ None
none_by_another table f h (AllEvaluated vs) = no_other_names (one_text vs) table.has_unknown (is_the_unknown f) h
none_by_another table f h (SomeResiduals rs) = refl
none_by_another table f h (SomeFailed k) = refl

-- where the table has `unknown` and this isn't it, or the table lacks it, a call is answered by its function
none_called : (table : Table) (f : Name) (b : Bool) → table.has_unknown ≡ b → (b ≡ true → is_the_unknown f ≡ false) → (as_ : Answers) → name_called table (Call f) as_ ≡ None
none_called table f true has other as_ = none_by_another table f (other refl) as_
none_called table f false lacks other as_ = none_without table lacks (Call f) as_

pub call_answered : (table : Table) (facts : Facts) (f : Name) → (table.has_unknown ≡ true → is_the_unknown f ≡ false) → (ts : Trees)
    → answer_in table facts (Apply (Call f) ts) ≡ apply_answer facts nothing_told (Call f) (answers_in table facts ts)
call_answered table facts f other ts =
    ap (λ o. named_or o (apply_answer facts nothing_told (Call f) (answers_in table facts ts))) (none_called table f table.has_unknown refl other (answers_in table facts ts))

-- ---- calls that name unknowns

module _ (P : Tree → Type 0) (f : Name) where
  by_test : (t : Tree) (ts : Trees) (b : Bool) → ((n : Text) → a_tree t ts ≡ a_tree (Lit (String n)) no_trees → b ≡ true → P (Unknown n None)) → P (Apply (Call f) (a_tree t ts)) → P (unknown_or b f t ts)
  by_test (Lit (String n)) no_trees true k h = k n refl refl
  by_test t ts false k h = h
  by_test t ts true k h = h

  -- a call names an unknown, or stays a call
  by_naming : (us : Trees) → ((n : Text) → us ≡ a_tree (Lit (String n)) no_trees → is_the_unknown f ≡ true → P (Unknown n None)) → P (Apply (Call f) us) → P (named_call (Call f) us)
  by_naming no_trees k h = h
  by_naming (a_tree t ts) k h = by_test t ts (is_the_unknown f) k h

-- ---- a tree without calls of `unknown`

stays_call : (f : Name) (ts : Trees) → is_the_unknown f ≡ false → named_call (Call f) ts ≡ Apply (Call f) ts
stays_call f no_trees h = refl
stays_call f (a_tree t ts) h = ap (λ b. unknown_or b f t ts) h

mutual
  pub unnamed : (t : Tree) → is_restricted t ≡ true → holds_call t ≡ false → named t ≡ t
  unnamed (Lit l) g h = refl
  unnamed (Unknown n ty) g h = refl
  unnamed (Apply MakeSet ts) g h = ap (Apply MakeSet) (all_unnamed ts g h)
  unnamed (Apply (MakeRecord ks) ts) g h = ap (Apply (MakeRecord ks)) (all_unnamed ts g h)
  unnamed (Apply (Call f) ts) g h = ap (named_call (Call f)) (all_unnamed ts g (or_right _ _ h)) ∙ stays_call f ts (or_left _ _ h)
  unnamed t g h = cc

  all_unnamed : (ts : Trees) → are_restricted ts ≡ true → hold_call ts ≡ false → all_named ts ≡ ts
  all_unnamed no_trees g h = refl
  all_unnamed (a_tree t ts) g h = (λ i. a_tree (unnamed t (and_left _ _ g) (or_left _ _ h) i) (all_unnamed ts (and_right _ _ g) (or_right _ _ h) i))

-- where the table lacks `unknown`, the tree doesn't call it
pub named_as : (b : Bool) (t : Tree) → is_restricted t ≡ true → (b ≡ false → holds_call t ≡ false) → named_by b t ≡ named t
named_as true t r h = refl
named_as false t r h = sym (unnamed t r (h refl))

-- ---- answers

module _ (table : Table) (facts : Facts) where
  module _ (lacks : table.has_unknown ≡ false) where
    mutual
      unnamed_answer : (t : Tree) → is_restricted t ≡ true → answer_in table facts t ≡ partial_in facts nothing_told t
      unnamed_answer (Lit l) h = refl
      unnamed_answer (Unknown n ty) h = refl
      unnamed_answer (Apply MakeSet ts) h = parts_answered table facts MakeSet ts (all_partial_in facts nothing_told ts) (unnamed_answers ts h) refl
      unnamed_answer (Apply (MakeRecord ks) ts) h = parts_answered table facts (MakeRecord ks) ts (all_partial_in facts nothing_told ts) (unnamed_answers ts h) refl
      unnamed_answer (Apply (Call f) ts) h =
          parts_answered table facts (Call f) ts (all_partial_in facts nothing_told ts) (unnamed_answers ts h) (none_without table lacks (Call f) (all_partial_in facts nothing_told ts))
      unnamed_answer t h = cc

      unnamed_answers : (ts : Trees) → are_restricted ts ≡ true → answers_in table facts ts ≡ all_partial_in facts nothing_told ts
      unnamed_answers no_trees h = refl
      unnamed_answers (a_tree t ts) h =
          ap (λ a. and_next facts a (answers_in table facts ts)) (unnamed_answer t (and_left _ _ h))
          ∙ ap (and_next facts (partial_in facts nothing_told t)) (unnamed_answers ts (and_right _ _ h))

  module _ (has : table.has_unknown ≡ true) where
    -- the arguments are answered so, where each name in them is written
    module _ (f : Name) (ts us : Trees) (answered : hold_call us ≡ false → answers_in table facts ts ≡ all_partial_in facts nothing_told us) where
      abbrev Reads : Tree → Type 0
      Reads t = holds_call t ≡ false → answer_in table facts (Apply (Call f) ts) ≡ partial_in facts nothing_told t

      named_here : (n : Text) → us ≡ a_tree (Lit (String n)) no_trees → is_the_unknown f ≡ true → Reads (Unknown n None)
      named_here n e i h =
          ap (λ as_. named_or (name_called table (Call f) as_) (apply_answer facts nothing_told (Call f) as_)) (answered (ap hold_call e) ∙ ap (all_partial_in facts nothing_told) e)
          ∙ ap (λ b. named_or (cond (b && is_the_unknown f) (Some n) None) (apply_answer facts nothing_told (Call f) (AllEvaluated (a_value (Plain (String n)) no_values)))) has
          ∙ ap (λ b. named_or (cond b (Some n) None) (apply_answer facts nothing_told (Call f) (AllEvaluated (a_value (Plain (String n)) no_values)))) i
          ∙ sym (still_unknown facts n None)

      stays_here : Reads (Apply (Call f) us)
      stays_here h =
          parts_answered table facts (Call f) ts (all_partial_in facts nothing_told us) (answered (or_right (is_the_unknown f) (hold_call us) h))
          (none_by_another table f (or_left (is_the_unknown f) (hold_call us) h) (all_partial_in facts nothing_told us))

    mutual
      named_answer : (t : Tree) → is_restricted t ≡ true → holds_call (named t) ≡ false → answer_in table facts t ≡ partial_in facts nothing_told (named t)
      named_answer (Lit l) r h = refl
      named_answer (Unknown n ty) r h = refl
      named_answer (Apply MakeSet ts) r h = parts_answered table facts MakeSet ts (all_partial_in facts nothing_told (all_named ts)) (named_answers ts r h) refl
      named_answer (Apply (MakeRecord ks) ts) r h = parts_answered table facts (MakeRecord ks) ts (all_partial_in facts nothing_told (all_named ts)) (named_answers ts r h) refl
      named_answer (Apply (Call f) ts) r h =
          by_naming (Reads f ts (all_named ts) (named_answers ts r)) f (all_named ts) (named_here f ts (all_named ts) (named_answers ts r)) (stays_here f ts (all_named ts) (named_answers ts r)) h
      named_answer t r h = cc

      named_answers : (ts : Trees) → are_restricted ts ≡ true → hold_call (all_named ts) ≡ false → answers_in table facts ts ≡ all_partial_in facts nothing_told (all_named ts)
      named_answers no_trees r h = refl
      named_answers (a_tree t ts) r h =
          ap (λ a. and_next facts a (answers_in table facts ts)) (named_answer t (and_left _ _ r) (or_left _ _ h))
          ∙ ap (and_next facts (partial_in facts nothing_told (named t))) (named_answers ts (and_right _ _ r) (or_right _ _ h))

  by_table : (b : Bool) → table.has_unknown ≡ b → (t : Tree) → is_restricted t ≡ true → (b && holds_call (named t)) ≡ false → answer_in table facts t ≡ partial_in facts nothing_told (named_by b t)
  by_table true has t r h = named_answer has t r h
  by_table false lacks t r h = unnamed_answer lacks t r

pub written_names_are_read : WrittenNamesAreRead
written_names_are_read table facts t r h = by_table table facts table.has_unknown refl t r h
