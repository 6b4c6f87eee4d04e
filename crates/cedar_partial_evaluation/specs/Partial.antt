-- Partial evaluation: a value, a residual that is left because something is unknown, or an error.
use Rattle.std.specs.Prelude.{◌≡◌, Bool, true, false, cond, Option, Some, None, List, [], ◌∷◌}
use Rattle.cedar_language.specs.Uid.{Text, Name}
use Rattle.cedar_language.specs.Tree.{Boolean, Entity, Variable, SlotId, Operator, Equal, Is, GetAttr, HasAttr, MakeRecord, Tree, Lit, Var, Slot, Unknown, If, And, Or, Apply, Trees, no_trees, a_tree, ValueType, EntityType}
use Rattle.cedar_language.specs.Value.{Value, Plain, Values, no_values, a_value, Kind, TypeError, RecordAttrDoesNotExist, Outcome, Gives, Fails}
use Rattle.cedar_language.specs.Order.{same_text, same_name}
pub use Rattle.cedar_language.specs.Restricted.{is_projectable, are_projectable}
use Rattle.cedar_language.specs.Facts.{Facts}
use Rattle.cedar_language.specs.Operators.{applied}
use Rattle.cedar_language.specs.Meaning.{slot_outcome, Request, meaning}
use Rattle.cedar_partial_evaluation.specs.MadeAgain.{tree_of, trees_of}
pub use Rattle.cedar_partial_evaluation.specs.Unknowns.{types_differ}

pub data Answer : Type 0 where
  Evaluated : Value → Answer
  ResidualTree : Tree → Answer
  Failed : Kind → Answer

pub data Answers : Type 0 where
  AllEvaluated : Values → Answers
  SomeResiduals : Trees → Answers
  SomeFailed : Kind → Answers

abbrev pub answer_of : Outcome → Answer
answer_of (Gives v) = Evaluated v
answer_of (Fails k) = Failed k

-- best effort: the answer's tree, or the original where it errs
abbrev pub best_effort : Facts → Answer → Tree → Tree
best_effort facts (Evaluated v) t = tree_of facts v
best_effort facts (ResidualTree r) t = r
best_effort facts (Failed k) t = t

-- a right operand under a left one that has decided nothing
abbrev pub last_answer : (Tree → Tree) → Answer → Answer
last_answer f (Evaluated (Plain (Boolean b))) = Evaluated (Plain (Boolean b))
last_answer f (Evaluated _) = Failed TypeError
last_answer f (ResidualTree r) = ResidualTree (f r)
last_answer f (Failed k) = Failed k

-- `true && r` with a residual r stays as it is
abbrev pub and_answer : Facts → Answer → Answer → Tree → Answer
and_answer facts (ResidualTree r) y t = ResidualTree (And r (best_effort facts y t))
and_answer facts (Evaluated (Plain (Boolean true))) y t = last_answer (And (Lit (Boolean true))) y
and_answer facts (Evaluated (Plain (Boolean false))) y t = Evaluated (Plain (Boolean false))
and_answer facts (Evaluated _) y t = Failed TypeError
and_answer facts (Failed k) y t = Failed k

abbrev pub or_answer : Facts → Answer → Answer → Tree → Answer
or_answer facts (ResidualTree r) y t = ResidualTree (Or r (best_effort facts y t))
or_answer facts (Evaluated (Plain (Boolean false))) y t = last_answer (Or (Lit (Boolean false))) y
or_answer facts (Evaluated (Plain (Boolean true))) y t = Evaluated (Plain (Boolean true))
or_answer facts (Evaluated _) y t = Failed TypeError
or_answer facts (Failed k) y t = Failed k

abbrev pub if_answer : Facts → Answer → Answer → Answer → Tree → Tree → Answer
if_answer facts (ResidualTree r) y z t u = ResidualTree (If r (best_effort facts y t) (best_effort facts z u))
if_answer facts (Evaluated (Plain (Boolean true))) y z t u = y
if_answer facts (Evaluated (Plain (Boolean false))) y z t u = z
if_answer facts (Evaluated _) y z t u = Failed TypeError
if_answer facts (Failed k) y z t u = Failed k

-- the first error met is the result, also behind an operand that stays a residual
abbrev pub and_next : Facts → Answer → Answers → Answers
and_next facts (Failed k) ys = SomeFailed k
and_next facts (Evaluated v) (AllEvaluated vs) = AllEvaluated (a_value v vs)
and_next facts (Evaluated v) (SomeResiduals rs) = SomeResiduals (a_tree (tree_of facts v) rs)
and_next facts (ResidualTree r) (AllEvaluated vs) = SomeResiduals (a_tree r (trees_of facts vs))
and_next facts (ResidualTree r) (SomeResiduals rs) = SomeResiduals (a_tree r rs)
and_next facts x (SomeFailed k) = SomeFailed k

-- what the evaluator holds for the leaves
pub record LeafAnswers : Type 0 where
  pub variable : Variable → Answer
  pub unknown : Text → Option ValueType → Answer
  pub slot : SlotId → Answer

-- operands that are all values make a value, else a residual stays
abbrev pub built_answer : Facts → Operator → Answers → Answer
built_answer facts op (AllEvaluated vs) = answer_of (applied facts op vs)
built_answer facts op (SomeResiduals rs) = ResidualTree (Apply op rs)
built_answer facts op (SomeFailed k) = Failed k

-- a projectable tree evaluated again
abbrev mutual
  pub projected_in : Facts → LeafAnswers → Tree → Answer
  projected_in facts holds (Unknown n ty) = holds.unknown n ty
  projected_in facts holds (Var v) = holds.variable v
  projected_in facts holds (Apply op ts) = built_answer facts op (all_projected_in facts holds ts)
  projected_in facts holds (Lit l) = Evaluated (Plain l)
  projected_in facts holds t = ResidualTree t

  pub all_projected_in : Facts → LeafAnswers → Trees → Answers
  all_projected_in facts holds no_trees = AllEvaluated no_values
  all_projected_in facts holds (a_tree t ts) = and_next facts (projected_in facts holds t) (all_projected_in facts holds ts)

-- the tree under a key
abbrev pub found_tree : List Text → Trees → Text → Option Tree
found_tree [] ts a = None
found_tree (k ∷ ks) no_trees a = None
found_tree (k ∷ ks) (a_tree t ts) a = cond (same_text k a) (Some t) (found_tree ks ts a)

-- `.a` of a residual record whose entry is this: a projectable record is projected, and else a missing key errs
abbrev pub entry_answer : Facts → LeafAnswers → Text → Tree → Bool → Option Tree → Answer
entry_answer facts holds a record_tree projectable None = Failed RecordAttrDoesNotExist
entry_answer facts holds a record_tree true (Some t) = projected_in facts holds t
entry_answer facts holds a record_tree false (Some t) = ResidualTree (Apply (GetAttr a) (a_tree record_tree no_trees))

abbrev pub attribute_answer : Facts → LeafAnswers → Text → Tree → Answer
attribute_answer facts holds a (Apply (MakeRecord ks) rs) =
    entry_answer facts holds a (Apply (MakeRecord ks) rs) (are_projectable rs) (found_tree ks rs a)
attribute_answer facts holds a r = ResidualTree (Apply (GetAttr a) (a_tree r no_trees))

-- `has a` of a residual record: a projectable one's keys decide
abbrev pub has_entry_answer : Text → Tree → Bool → Option Tree → Answer
has_entry_answer a r true (Some t) = Evaluated (Plain (Boolean true))
has_entry_answer a r true None = Evaluated (Plain (Boolean false))
has_entry_answer a r false o = ResidualTree (Apply (HasAttr a) (a_tree r no_trees))

abbrev pub has_answer : Text → Tree → Answer
has_answer a (Apply (MakeRecord ks) rs) = has_entry_answer a (Apply (MakeRecord ks) rs) (are_projectable rs) (found_tree ks rs a)
has_answer a r = ResidualTree (Apply (HasAttr a) (a_tree r no_trees))

-- `is` on an unknown with a stated type of entities is decided by that type
abbrev pub is_answer : Name → Tree → Answer
is_answer ty (Unknown n (Some (EntityType u))) = Evaluated (Plain (Boolean (same_name u ty)))
is_answer ty r = ResidualTree (Apply (Is ty) (a_tree r no_trees))

-- the type of an entity, or of an unknown with a stated type of entities
abbrev pub stated_type : Tree → Option Name
stated_type (Lit (Entity u)) = Some u.type_name
stated_type (Unknown n (Some (EntityType u))) = Some u
stated_type _ = None

-- `==` of two things whose types are known to differ is false
abbrev pub equal_answer : Bool → Tree → Tree → Answer
equal_answer true r s = Evaluated (Plain (Boolean false))
equal_answer false r s = ResidualTree (Apply Equal (a_tree r (a_tree s no_trees)))

-- operands of which some are residuals
abbrev pub residual_answer : Facts → LeafAnswers → Operator → Trees → Answer
residual_answer facts holds (GetAttr a) (a_tree r no_trees) = attribute_answer facts holds a r
residual_answer facts holds (HasAttr a) (a_tree r no_trees) = has_answer a r
residual_answer facts holds (Is ty) (a_tree r no_trees) = is_answer ty r
residual_answer facts holds Equal (a_tree r (a_tree s no_trees)) = equal_answer (types_differ (stated_type r) (stated_type s)) r s
residual_answer facts holds op rs = ResidualTree (Apply op rs)

abbrev pub apply_answer : Facts → LeafAnswers → Operator → Answers → Answer
apply_answer facts holds op (AllEvaluated vs) = answer_of (applied facts op vs)
apply_answer facts holds op (SomeResiduals rs) = residual_answer facts holds op rs
apply_answer facts holds op (SomeFailed k) = Failed k

abbrev mutual
  pub partial_in : Facts → LeafAnswers → Tree → Answer
  partial_in facts holds (Lit l) = Evaluated (Plain l)
  partial_in facts holds (Var v) = holds.variable v
  partial_in facts holds (Slot s) = holds.slot s
  partial_in facts holds (Unknown n ty) = holds.unknown n ty
  partial_in facts holds (If t y n) =
      if_answer facts (partial_in facts holds t) (partial_in facts holds y) (partial_in facts holds n) y n
  partial_in facts holds (And l r) = and_answer facts (partial_in facts holds l) (partial_in facts holds r) r
  partial_in facts holds (Or l r) = or_answer facts (partial_in facts holds l) (partial_in facts holds r) r
  partial_in facts holds (Apply op ts) = apply_answer facts holds op (all_partial_in facts holds ts)

  pub all_partial_in : Facts → LeafAnswers → Trees → Answers
  all_partial_in facts holds no_trees = AllEvaluated no_values
  all_partial_in facts holds (a_tree t ts) = and_next facts (partial_in facts holds t) (all_partial_in facts holds ts)

-- where everything is known
abbrev pub leaf_answers_of : Request → LeafAnswers
leaf_answers_of request = record {
  variable = λ v. Evaluated (request.variable v);
  unknown = λ n ty. answer_of (request.unknown n ty);
  slot = λ s. answer_of (slot_outcome (request.slots s));
}

-- partial evaluation where everything is known answers what the tree means, kinds included
abbrev pub KnownIsMeaning : Type 0
KnownIsMeaning = (facts : Facts) (request : Request) (t : Tree) → partial_in facts (leaf_answers_of request) t ≡ answer_of (meaning facts request t)
