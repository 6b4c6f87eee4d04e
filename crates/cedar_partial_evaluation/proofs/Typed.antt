-- Types that are known of operands settle `is` and `==`, and answers that show these types fit what is settled so.
use Rattle.std.proofs.Common.{◌≡◌, Bool, true, false, not, cond, Option, Some, None, [], ◌∷◌, refl, subst}
use Rattle.cedar_language.specs.Uid.{Text, Name}
use Rattle.cedar_language.specs.Tree.{Boolean, Variable, Operator, Equal, Tree, Var, Unknown, Apply, Trees, no_trees, a_tree, EntityType}
use Rattle.cedar_language.specs.Tree as tree
use Rattle.cedar_language.specs.Value.{Plain}
use Rattle.cedar_language.specs.Order.{same_name}
use Rattle.cedar_language.specs.Facts.{Facts}
use Rattle.cedar_partial_evaluation.specs.Settling.{Settling, Open, Errs, Is, LeafSettlings, stated_in, type_known, equal_by_types, or_type, settled_in, types_in}
use Rattle.cedar_partial_evaluation.specs.Partial.{Answer, LeafAnswers, types_differ, apply_answer, partial_in, all_partial_in}
use Rattle.cedar_partial_evaluation.specs.Fair.{IsStated}

pub told_not : (b : Bool) (ty u : Name) → cond b (Some ty) None ≡ Some u → (b ≡ true) × (ty ≡ u)
told_not true ty u h = (refl, cc)
told_not false ty u h = cc

-- the type that is stated of a leaf is that of what is left of it
pub leaf_stated : (around : LeafSettlings) (other : LeafSettlings) (holds : LeafAnswers) →
    ((v : Variable) (ty : Name) → around.variable_type v ≡ Some ty → IsStated other (holds.variable v) ty) →
    ((n : Text) (ty : Name) → around.untold n ≡ true → IsStated other (holds.unknown n (Some (EntityType ty))) ty) →
    (facts : Facts) (t : Tree) (u : Name) → stated_in around t ≡ Some u → IsStated other (partial_in facts holds t) u
leaf_stated around other holds f g facts (Var v) u h = f v u h
leaf_stated around other holds f g facts (Unknown n (Some (EntityType ty))) u h =
    let (b, e) = told_not (around.untold n) ty u h in
    subst (λ (y : Name). IsStated other (holds.unknown n (Some (EntityType ty))) y) e (g n ty b)
leaf_stated around other holds f g facts t u h = cc

-- ---- operands whose answers show the types that are known of them

module _ (facts : Facts) (around : LeafSettlings) (holds : LeafAnswers) (type_of : Answer → Option Name) where
  abbrev pub ShowsType : Tree → Option Name → Type 0
  ShowsType t o = (u : Name) → o ≡ Some u → type_of (partial_in facts holds t) ≡ Some u

  abbrev pub ShowTypes : Trees → Type 0
  ShowTypes no_trees = Unit {0}
  ShowTypes (a_tree t ts) = ShowsType t (type_known (settled_in facts around t) (stated_in around t)) × ShowTypes ts

  abbrev pub answer_to : Operator → Trees → Answer
  answer_to op ts = apply_answer facts holds op (all_partial_in facts holds ts)

  module _ (Fits : Tree → Settling → Answer → Type 0)
      (is_fits : (ty u : Name) (s : Tree) → type_of (partial_in facts holds s) ≡ Some u →
      Fits (Apply (tree.Is ty) (a_tree s no_trees)) (Is (Plain (Boolean (same_name u ty)))) (answer_to (tree.Is ty) (a_tree s no_trees)))
      (equal_fits : (u w : Name) (s t : Tree) → type_of (partial_in facts holds s) ≡ Some u → type_of (partial_in facts holds t) ≡ Some w → not (same_name u w) ≡ true →
      Fits (Apply Equal (a_tree s (a_tree t no_trees))) (Is (Plain (Boolean false))) (answer_to Equal (a_tree s (a_tree t no_trees)))) where
    is_typed : (ty : Name) (s : Tree) (o : Option Name) (x : Settling) → ShowsType s o →
        Fits (Apply (tree.Is ty) (a_tree s no_trees)) x (answer_to (tree.Is ty) (a_tree s no_trees)) →
        Fits (Apply (tree.Is ty) (a_tree s no_trees)) (or_type (tree.Is ty) (o ∷ []) x) (answer_to (tree.Is ty) (a_tree s no_trees))
    is_typed ty s (Some u) Open f h = is_fits ty u s (f u refl)
    is_typed ty s None Open f h = h
    is_typed ty s o Errs f h = h
    is_typed ty s o (Is v) f h = h

    differing_typed : (s t : Tree) (b : Bool) (o p : Option Name) → types_differ o p ≡ b → ShowsType s o → ShowsType t p →
        Fits (Apply Equal (a_tree s (a_tree t no_trees))) Open (answer_to Equal (a_tree s (a_tree t no_trees))) →
        Fits (Apply Equal (a_tree s (a_tree t no_trees))) (equal_by_types b) (answer_to Equal (a_tree s (a_tree t no_trees)))
    differing_typed s t true (Some u) (Some w) e f g h = equal_fits u w s t (f u refl) (g w refl) e
    differing_typed s t true (Some u) None e f g h = cc
    differing_typed s t true None p e f g h = cc
    differing_typed s t false o p e f g h = h

    equal_typed : (s t : Tree) (o p : Option Name) (x : Settling) → ShowsType s o → ShowsType t p →
        Fits (Apply Equal (a_tree s (a_tree t no_trees))) x (answer_to Equal (a_tree s (a_tree t no_trees))) →
        Fits (Apply Equal (a_tree s (a_tree t no_trees))) (or_type Equal (o ∷ p ∷ []) x) (answer_to Equal (a_tree s (a_tree t no_trees)))
    equal_typed s t o p Open f g h = differing_typed s t (types_differ o p) o p refl f g h
    equal_typed s t o p Errs f g h = h
    equal_typed s t o p (Is v) f g h = h

    pub types_fit : (op : Operator) (ts : Trees) (x : Settling) → ShowTypes ts → Fits (Apply op ts) x (answer_to op ts) →
        Fits (Apply op ts) (or_type op (types_in facts around ts) x) (answer_to op ts)
    types_fit (tree.Is ty) (a_tree s no_trees) x f h = is_typed ty s (type_known (settled_in facts around s) (stated_in around s)) x f.0 h
    types_fit Equal (a_tree s (a_tree t no_trees)) x f h =
        equal_typed s t (type_known (settled_in facts around s) (stated_in around s)) (type_known (settled_in facts around t) (stated_in around t)) x f.0 f.1.0 h
    types_fit op ts x f h = h
