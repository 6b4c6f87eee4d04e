-- Rows of partial evaluation, each by computing.
use Rattle.std.proofs.Common.{◌≡◌, Some, refl, ap, ◌∙◌, subst}
use Rattle.cedar_partial_evaluation.specs.MadeAgain.{IsMadeAgain, AreMadeAgain, HoldsMade}
use Rattle.cedar_language.specs.Facts.{Function}
use Rattle.cedar_language.specs.Tree as tree
use Rattle.cedar_language.specs.Value.{Value, Values, no_values, a_value}
use Rattle.cedar_partial_evaluation.specs.EarlyRows.{handed_back, hands_back, EarlyRows}

handed_back_made : (vs : Values) (v : Value) → AreMadeAgain hands_back vs → handed_back vs ≡ Some v → IsMadeAgain hands_back v
handed_back_made (a_value w no_values) v h e = let is : w ≡ v = cc in subst (IsMadeAgain hands_back) is h.0
handed_back_made no_values v h e = cc
handed_back_made (a_value w (a_value x xs)) v h e = cc

hands_back_made : HoldsMade hands_back
hands_back_made = record {
  attribute = λ u held a v e. cc;
  tag = λ u held a v e. cc;
  answer = λ n f vs v e h i.
      let is : ◌≡◌ {A = Function} (record { takes = Some 1; answer = handed_back }) f = cc in
      handed_back_made vs v h (ap (λ (g : Function). g.answer vs) is ∙ i);
}

pub early_rows : EarlyRows
early_rows = record {
  beside_unknown = λ told h. rw h refl;
  beside_unknown_settles = λ told h. rw h (rw h refl);
  not_written = λ told h. rw h refl;
  not_written_has = λ told h. rw h refl;
  errs_behind = λ told h. rw h (rw h refl);
  beside_call = λ told h. rw h refl;
  beside_call_open = λ told h. rw h (rw h refl);
  not_written_beside_call = λ told h. rw h refl;
  is_by_type = λ told h. rw h refl;
  other_type_differs = λ told h. rw h refl;
  same_type_open = λ told h. rw h refl;
  same_type_told = λ told h. rw h refl;
  other_type_told = λ told h. rw h refl;
  is_settles = λ told h. rw h refl;
  is_other_settles = λ told h. rw h refl;
  other_type_settles = λ told h. rw h refl;
  turned_settles = λ told h. rw h refl;
  two_types_settle = λ told h i. rw (h, i) refl;
  same_type_settles_nothing = λ told h. rw h refl;
  other_type_told_settles_nothing = λ told h. rw h refl;
  a_filling = λ told h. record { principal = (h, refl); action = refl; resource = refl; context = (refl, tt, refl) };
  long_is_open = λ told h. rw h refl;
  long_told = λ told h. rw h refl;
  no_long_told = λ told h. rw h refl;
  no_long_settles_nothing = λ told h. rw h refl;
  hands_back_made = hands_back_made;
  kept_back = λ told h i. rw (h, i) (rw (h, i) refl);
  kept_back_later = λ told h i. rw (h, i) (rw i refl);
  comes_out = λ told h i. rw (h, i) refl;
  decided_first = λ told h i. rw (h, i) refl;
  decided_less = λ told h i. rw (h, i) refl;
  slot_kept = λ told h. rw h refl;
  slot_bound = λ told h. rw h refl;
  slot_unbound = λ told h. rw h refl;
}
