-- Data errs where some part of it does.
use Rattle.std.proofs.Common.{◌≡◌, ◌⊎◌, inl, inr, Bool, true, false, cond, Option, Some, None, refl, sym, ◌∙◌, ap}
use Rattle.std.proofs.lemmas.Bool.{and_parts}
use Rattle.std.specs.FinMap as finite
use Rattle.cedar_language.specs.Uid.{Text}
use Rattle.cedar_language.specs.Tree.{Operator, Tree, Lit, Unknown, Apply, Trees, no_trees, a_tree, ValueType}
use Rattle.cedar_language.specs.Value.{Value, Values, Kind, TypeError, Outcome, Gives, Fails}
use Rattle.cedar_language.specs.Facts.{Facts}
use Rattle.cedar_language.specs.Meaning.{meaning}
use Rattle.cedar_language.specs.Restricted.{is_restricted, are_restricted}
use Rattle.cedar_partial_evaluation.specs.Partial.{Answer, Evaluated, ResidualTree, Failed, Answers, AllEvaluated, SomeResiduals, SomeFailed, answer_of, and_next, LeafAnswers, residual_answer, apply_answer, partial_in, all_partial_in}
use Rattle.cedar_partial_evaluation.specs.Prompt.{IsRefused}
use Rattle.cedar_partial_evaluation.specs.Unknowns.{fits, EachUnknown, EachUnknownOf}
use Rattle.cedar_partial_evaluation.specs.Question.{Told, value_held, name_held, held_names}
use Rattle.cedar_partial_evaluation.specs.Filling.{name_outcome, names_told}
use Rattle.cedar_partial_evaluation.specs.DataErrors.{IsPart, whole, inside, IsPartOfOne, of_first, of_later, FailsOnceTold, HasErringPart, DataErrsInParts}
use Rattle.cedar_partial_evaluation.proofs.Passing.{data_in, of_data, data_passes}
use Rattle.cedar_partial_evaluation.proofs.Known.{answered_at}
use Rattle.cedar_partial_evaluation.proofs.Question.{next_known}

pub value_answer : (b : Bool) (v : Value) → value_held b v ≡ answer_of (cond b (Gives v) (Fails TypeError))
value_answer true v = refl
value_answer false v = refl

fails_so : (o : Outcome) (k : Kind) → answer_of o ≡ Failed k → o ≡ Fails k
fails_so (Gives v) k h = cc
fails_so (Fails j) k h = let same : j ≡ k = cc in ap (λ x. Fails x) same

module _ (facts : Facts) (told : Told) where
  abbrev holds : LeafAnswers
  holds = held_names told

  abbrev IsTold : Text → Option ValueType → Type 0
  IsTold n ty = (v : Value) × (finite.get told n ≡ Some v)

  -- ---- data all of whose names are told

  name_answer : (n : Text) (ty : Option ValueType) (v : Value) → finite.get told n ≡ Some v → name_held (finite.get told n) n ty ≡ answer_of (name_outcome (finite.get told n) ty)
  name_answer n ty v e = rw e (value_answer (fits ty v) v)

  data_answer : (t : Tree) → is_restricted t ≡ true → EachUnknown IsTold t → partial_in facts holds t ≡ answer_of (meaning facts (names_told told) t)
  data_answer t h given =
      answered_at facts (names_told told) holds (of_data IsTold) (λ v k. absurd k) (λ n ty k. name_answer n ty k.0 k.1) (λ s k. absurd k) t (data_passes IsTold t h given)

  -- ---- data that is evaluated

  name_told : (n : Text) (ty : Option ValueType) (o : Option Value) (v : Value) → finite.get told n ≡ o → name_held o n ty ≡ Evaluated v → IsTold n ty
  name_told n ty (Some w) v e h = (w, e)
  name_told n ty None v e h = cc

  strict_values : (op : Operator) (ps : Answers) (v : Value) → ((rs : Trees) → residual_answer facts holds op rs ≡ ResidualTree (Apply op rs)) →
      apply_answer facts holds op ps ≡ Evaluated v → (vs : Values) × (ps ≡ AllEvaluated vs)
  strict_values op (AllEvaluated vs) v stays h = (vs, refl)
  strict_values op (SomeResiduals rs) v stays h = let both : ResidualTree (Apply op rs) ≡ Evaluated v = sym (stays rs) ∙ h in cc
  strict_values op (SomeFailed k) v stays h = cc

  mutual
    evaluated_told : (t : Tree) → is_restricted t ≡ true → (v : Value) → partial_in facts holds t ≡ Evaluated v → EachUnknown IsTold t
    evaluated_told (Lit l) r v h = tt
    evaluated_told (Unknown n ty) r v h = name_told n ty (finite.get told n) v refl h
    evaluated_told (Apply op ts) r v h =
        let (rs, stays) = data_in op ts r in
        let (vs, e) = strict_values op (all_partial_in facts holds ts) v (stays facts holds) h in
        all_evaluated_told ts rs vs e
    evaluated_told _ r v h = cc

    all_evaluated_told : (ts : Trees) → are_restricted ts ≡ true → (vs : Values) → all_partial_in facts holds ts ≡ AllEvaluated vs → EachUnknownOf IsTold ts
    all_evaluated_told no_trees r vs h = tt
    all_evaluated_told (a_tree t ts) r vs h =
        let (rt, rts) = and_parts (is_restricted t) (are_restricted ts) r in
        let (v, ws, now, later, is) = next_known facts (partial_in facts holds t) (all_partial_in facts holds ts) vs h in
        (evaluated_told t rt v now, all_evaluated_told ts rts ws later)

  -- ---- data that is refused

  name_refused : (n : Text) (ty : Option ValueType) (o : Option Value) (k : Kind) → finite.get told n ≡ o → name_held o n ty ≡ Failed k → IsTold n ty
  name_refused n ty (Some w) k e h = (w, e)
  name_refused n ty None k e h = cc

  whole_refused : (t : Tree) → is_restricted t ≡ true → EachUnknown IsTold t → (k : Kind) → partial_in facts holds t ≡ Failed k → HasErringPart facts told t
  whole_refused t r given k h = record { part = t; is_part = whole; fails = (given, k, fails_so (meaning facts (names_told told) t) k (sym (data_answer t r given) ∙ h)) }

  next_failed : (p : Answer) (ps : Answers) (k : Kind) → and_next facts p ps ≡ SomeFailed k → (p ≡ Failed k) ⊎ (ps ≡ SomeFailed k)
  next_failed (Evaluated v) (AllEvaluated vs) k h = cc
  next_failed (Evaluated v) (SomeResiduals rs) k h = cc
  next_failed (Evaluated v) (SomeFailed j) k h = inr h
  next_failed (ResidualTree r) (AllEvaluated vs) k h = cc
  next_failed (ResidualTree r) (SomeResiduals rs) k h = cc
  next_failed (ResidualTree r) (SomeFailed j) k h = inr h
  next_failed (Failed j) ps k h = let same : j ≡ k = cc in inl (ap (λ x. Failed x) same)

  strict_refused : (op : Operator) (ts : Trees) (ps : Answers) (k : Kind) → all_partial_in facts holds ts ≡ ps →
      ((rs : Trees) → residual_answer facts holds op rs ≡ ResidualTree (Apply op rs)) → apply_answer facts holds op ps ≡ Failed k →
      ((vs : Values) → all_partial_in facts holds ts ≡ AllEvaluated vs → HasErringPart facts told (Apply op ts)) →
      ((j : Kind) → all_partial_in facts holds ts ≡ SomeFailed j → HasErringPart facts told (Apply op ts)) → HasErringPart facts told (Apply op ts)
  strict_refused op ts (AllEvaluated vs) k e stays h here below = here vs e
  strict_refused op ts (SomeResiduals rs) k e stays h here below = absurd (let both : ResidualTree (Apply op rs) ≡ Failed k = sym (stays rs) ∙ h in cc)
  strict_refused op ts (SomeFailed j) k e stays h here below = below j e

  -- some part of one of these errs
  abbrev OneErrs : Trees → Type 0
  OneErrs ts = (p : Tree) × IsPartOfOne p ts × FailsOnceTold facts told p

  errs_below : (op : Operator) (ts : Trees) → OneErrs ts → HasErringPart facts told (Apply op ts)
  errs_below op ts (p, is, fails) = record { part = p; is_part = inside is; fails = fails }

  errs_first : (t : Tree) (ts : Trees) → HasErringPart facts told t → OneErrs (a_tree t ts)
  errs_first t ts h = (h.part, of_first h.is_part, h.fails)

  errs_later : (t : Tree) (ts : Trees) → OneErrs ts → OneErrs (a_tree t ts)
  errs_later t ts (p, is, fails) = (p, of_later is, fails)

  of_two : (t : Tree) (ts : Trees) {A B : Type 0} → (A → HasErringPart facts told t) → (B → OneErrs ts) → A ⊎ B → OneErrs (a_tree t ts)
  of_two t ts f g (inl e) = errs_first t ts (f e)
  of_two t ts f g (inr e) = errs_later t ts (g e)

  mutual
    refused : (t : Tree) → is_restricted t ≡ true → (k : Kind) → partial_in facts holds t ≡ Failed k → HasErringPart facts told t
    refused (Lit l) r k h = cc
    refused (Unknown n ty) r k h = whole_refused (Unknown n ty) refl (name_refused n ty (finite.get told n) k refl h) k h
    refused (Apply op ts) r k h =
        let (rs, stays) = data_in op ts r in
        strict_refused op ts (all_partial_in facts holds ts) k refl (stays facts holds) h
        (λ vs e. whole_refused (Apply op ts) r (all_evaluated_told ts rs vs e) k h) (λ j e. errs_below op ts (one_refused ts rs j e))
    refused _ r k h = cc

    one_refused : (ts : Trees) → are_restricted ts ≡ true → (k : Kind) → all_partial_in facts holds ts ≡ SomeFailed k → OneErrs ts
    one_refused no_trees r k h = cc
    one_refused (a_tree t ts) r k h =
        let (rt, rts) = and_parts (is_restricted t) (are_restricted ts) r in
        of_two t ts (λ e. refused t rt k e) (λ e. one_refused ts rts k e) (next_failed (partial_in facts holds t) (all_partial_in facts holds ts) k h)

  -- ---- a part that errs

  later_fails : (p : Answer) (k : Kind) → (j : Kind) × (and_next facts p (SomeFailed k) ≡ SomeFailed j)
  later_fails (Evaluated v) k = (k, refl)
  later_fails (ResidualTree r) k = (k, refl)
  later_fails (Failed j) k = (j, refl)

  mutual
    part_fails : {p t : Tree} → IsPart p t → is_restricted t ≡ true → FailsOnceTold facts told p → IsRefused facts holds t
    part_fails (whole {t = t}) r (given, k, e) = (k, data_answer t r given ∙ ap answer_of e)
    part_fails (inside {op = op} {ts = ts} i) r fails =
        let (k, e) = one_fails i (data_in op ts r).0 fails in
        (k, ap (apply_answer facts holds op) e)

    one_fails : {p : Tree} {ts : Trees} → IsPartOfOne p ts → are_restricted ts ≡ true → FailsOnceTold facts told p → (k : Kind) × (all_partial_in facts holds ts ≡ SomeFailed k)
    one_fails (of_first {t = t} {ts = ts} i) r fails =
        let (k, e) = part_fails i (and_parts (is_restricted t) (are_restricted ts) r).0 fails in
        (k, ap (λ p. and_next facts p (all_partial_in facts holds ts)) e)
    one_fails (of_later {t = t} {ts = ts} i) r fails =
        let (k, e) = one_fails i (and_parts (is_restricted t) (are_restricted ts) r).1 fails in
        let (j, f) = later_fails (partial_in facts holds t) k in
        (j, ap (and_next facts (partial_in facts holds t)) e ∙ f)

pub data_errs_in_parts : DataErrsInParts
data_errs_in_parts facts told t r = (
  (λ h. refused facts told t r h.0 h.1),
  (λ h. part_fails facts told h.is_part r h.fails),
)
