-- Telling more values carries on what is settled also where slots are no longer bound.
use Rattle.std.proofs.Common.{◌≡◌, Bool, true, false, Option, Some, None, refl, ap}
use Rattle.cedar_language.specs.Uid.{Text}
use Rattle.cedar_language.specs.Tree.{Context, Operator, GetAttr, HasAttr, MakeRecord, Tree, Apply, Trees, no_trees, a_tree}
use Rattle.cedar_language.specs.Value.{no_values}
use Rattle.cedar_language.specs.Facts.{Facts}
use Rattle.cedar_language.specs.Meaning.{Slots}
use Rattle.cedar_partial_evaluation.specs.MadeAgain.{HoldsMade}
use Rattle.cedar_partial_evaluation.specs.Partial.{Answers, AllEvaluated, SomeResiduals, and_next, are_projectable, built_answer, projected_in, all_projected_in, found_tree, entry_answer, residual_answer, apply_answer}
use Rattle.cedar_partial_evaluation.specs.Linking.{no_slots}
use Rattle.cedar_partial_evaluation.specs.Question.{Question, Told, variable_held, settled_of, held_of, Extends, AreMadeTold, IsAccepted, TellingCarries}
use Rattle.cedar_partial_evaluation.specs.Seam.{Carries}
use Rattle.cedar_partial_evaluation.specs.Unbound.{unbound}
use Rattle.cedar_partial_evaluation.specs.UnboundSeam.{CarriesUnbound}
use Rattle.cedar_partial_evaluation.proofs.Question.{slot_below}

-- what is left of a record is projected alike whether slots are bound or not
module _ (facts : Facts) (q : Question) (slots : Slots) (told : Told) where
  mutual
    projected_same : (t : Tree) → projected_in facts (held_of facts q no_slots told) t ≡ projected_in facts (held_of facts q slots told) t
    projected_same (Apply op ts) = ap (built_answer facts op) (all_projected_same ts)
    projected_same _ = refl

    all_projected_same : (ts : Trees) → all_projected_in facts (held_of facts q no_slots told) ts ≡ all_projected_in facts (held_of facts q slots told) ts
    all_projected_same no_trees = refl
    all_projected_same (a_tree t ts) = rw (projected_same t, all_projected_same ts) refl

  entry_same : (a : Text) (r : Tree) (b : Bool) (o : Option Tree) → entry_answer facts (held_of facts q no_slots told) a r b o ≡ entry_answer facts (held_of facts q slots told) a r b o
  entry_same a r b None = refl
  entry_same a r true (Some t) = projected_same t
  entry_same a r false (Some t) = refl

  left_same : (op : Operator) (rs : Trees) → residual_answer facts (held_of facts q no_slots told) op rs ≡ residual_answer facts (held_of facts q slots told) op rs
  left_same (GetAttr a) (a_tree (Apply (MakeRecord ks) rs) no_trees) = entry_same a (Apply (MakeRecord ks) rs) (are_projectable rs) (found_tree ks rs a)
  left_same (GetAttr a) (a_tree r no_trees) = refl
  left_same _ _ = refl

  apply_same : (op : Operator) (ps : Answers) → apply_answer facts (held_of facts q no_slots told) op ps ≡ apply_answer facts (held_of facts q slots told) op ps
  apply_same op (SomeResiduals rs) = left_same op rs
  apply_same op _ = refl

pub carries_unbound : TellingCarries → (facts : Facts) → HoldsMade facts → (q : Question) (slots : Slots) (told later : Told) → Extends told later → AreMadeTold facts told →
    IsAccepted facts told q.context → IsAccepted facts later q.context → CarriesUnbound facts (settled_of facts q slots later) (held_of facts q slots told)
carries_unbound carries facts made q slots told later extends are_made now then =
    let c : Carries facts (settled_of facts q no_slots later) (held_of facts q no_slots told) = carries facts made q no_slots told later extends are_made now then in
    record {
      variable = c.variable;
      never_errs = c.never_errs;
      unknown = c.unknown;
      name_never_errs = c.name_never_errs;
      typed = c.typed;
      slot = λ s. slot_below facts (unbound (settled_of facts q slots later)) (slots s);
      in_context = λ a. rw (apply_same facts q slots told (GetAttr a) (and_next facts (variable_held facts q told Context) (AllEvaluated no_values))) at (c.in_context a);
      has_in_context = λ a. rw (apply_same facts q slots told (HasAttr a) (and_next facts (variable_held facts q told Context) (AllEvaluated no_values))) at (c.has_in_context a);
      variable_type = c.variable_type;
      untold = c.untold;
    }
