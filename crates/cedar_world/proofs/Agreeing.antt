-- What is settled of a tree is what the tree means, kinds of errors aside, wherever that is so of its leaves.
use Rattle.std.proofs.Common.{◌≡◌, Bool, true, false, Option, Some, None, [], ◌∷◌, refl, sym, ◌∙◌, ap, subst}
use Rattle.cedar_language.specs.Uid.{Text, Name, Uid}
use Rattle.cedar_language.specs.Tree.{Entity, Variable, Context, SlotId, Operator, Equal, GetAttr, HasAttr, Tree, Lit, Var, Slot, Unknown, If, And, Or, Apply, Trees, no_trees, a_tree}
use Rattle.cedar_language.specs.Tree as tree
use Rattle.cedar_language.specs.Value.{Value, Plain, no_values, a_value, Outcome, Gives, Fails}
use Rattle.cedar_language.specs.Facts.{Facts}
use Rattle.cedar_language.specs.Operators.{applied}
use Rattle.cedar_language.specs.Meaning.{Request, slot_outcome, meaning, meanings}
use Rattle.cedar_partial_evaluation.specs.Settling.{Settling, Open, Errs, Is, kindless, Below, and_settled, or_settled, if_settled, and_more, apply_settled, LeafSettlings, or_entry, stated_in, type_of_entity, type_known, equal_by_types, or_type, settled_in, all_settled_in, types_in}
use Rattle.cedar_partial_evaluation.specs.Fair.{IsOfType}
use Rattle.cedar_partial_evaluation.specs.Unknowns.{types_differ, LeafTests, EachLeaf, EachLeafOf}
use Rattle.cedar_partial_evaluation.proofs.Passing.{mentioned_alone}
use Rattle.cedar_partial_evaluation.proofs.Known.{kindless_all, and_is, or_is, if_is, more_is, apply_is}
use Rattle.cedar_partial_evaluation.proofs.Sound.{other_type}
use Rattle.cedar_partial_evaluation.proofs.Carried.{BelowAll, and_mono, or_mono, if_mono, more_mono, apply_mono}

pub gives_is : (o : Outcome) (v : Value) → kindless o ≡ Is v → o ≡ Gives v
gives_is (Gives w) v e = let is : w ≡ v = cc in ap Gives is
gives_is (Fails k) v e = cc

-- an entity of the type
abbrev IsTyped : Name → Outcome → Type 0
IsTyped u o = (e : Uid) × (o ≡ Gives (Plain (Entity e))) × (e.type_name ≡ u)

typed_value : (v : Value) (u : Name) → type_of_entity v ≡ Some u → IsOfType u v
typed_value (Plain (Entity e)) u h = (e, refl, cc)
typed_value v u h = cc

-- no unknown stands in the tree
abbrev without_names : LeafTests
without_names = mentioned_alone (λ v. true) true

-- what is known of the leaves is what they mean, and so are the entries of an open context
pub record LeavesAgree (facts : Facts) (around : LeafSettlings) (request : Request) : Type 0 where
  pub variable : (v : Variable) → Below (around.variable v) (Is (request.variable v))
  pub slot : (s : SlotId) → Below (around.slot s) (kindless (slot_outcome (request.slots s)))
  pub in_context : (a : Text) → Below (around.in_context a) (kindless (applied facts (GetAttr a) (a_value (request.variable Context) no_values)))
  pub has_in_context : (a : Text) → Below (around.has_in_context a) (kindless (applied facts (HasAttr a) (a_value (request.variable Context) no_values)))
  pub variable_type : (v : Variable) (ty : Name) → around.variable_type v ≡ Some ty → IsOfType ty (request.variable v)

module _ (facts : Facts) (around : LeafSettlings) (request : Request) (leaves : LeavesAgree facts around request) where
  abbrev meant : Tree → Settling
  meant t = kindless (meaning facts request t)

  entry_agrees : (op : Operator) (ts : Trees) (x : Settling) → Below x (meant (Apply op ts)) → Below (or_entry around op ts x) (meant (Apply op ts))
  entry_agrees (GetAttr a) (a_tree (Var Context) no_trees) Open h = leaves.in_context a
  entry_agrees (HasAttr a) (a_tree (Var Context) no_trees) Open h = leaves.has_in_context a
  entry_agrees op ts x h = h

  -- ---- what types settle

  leaf_typed : (t : Tree) (u : Name) → EachLeaf without_names t → stated_in around t ≡ Some u → IsTyped u (meaning facts request t)
  leaf_typed (Var v) u h e = let (b, is, of_type) = leaves.variable_type v u e in (b, ap Gives is, of_type)
  leaf_typed (Unknown n ty) u h e = absurd h
  leaf_typed t u h e = cc

  operand_typed : (t : Tree) (u : Name) (x : Settling) → EachLeaf without_names t → Below x (meant t) → type_known x (stated_in around t) ≡ Some u → IsTyped u (meaning facts request t)
  operand_typed t u Open h a e = leaf_typed t u h e
  operand_typed t u Errs h a e = cc
  operand_typed t u (Is v) h a e = let (b, is, of_type) = typed_value v u e in (b, gives_is (meaning facts request t) v (sym a) ∙ ap Gives is, of_type)

  is_agrees : (ty : Name) (s : Tree) (o : Option Name) (x : Settling) → ((u : Name) → o ≡ Some u → IsTyped u (meaning facts request s)) →
      Below x (meant (Apply (tree.Is ty) (a_tree s no_trees))) → Below (or_type (tree.Is ty) (o ∷ []) x) (meant (Apply (tree.Is ty) (a_tree s no_trees)))
  is_agrees ty s (Some u) Open f a = let (e, is, of_type) = f u refl in rw (is, of_type) refl
  is_agrees ty s None Open f a = tt
  is_agrees ty s o Errs f a = a
  is_agrees ty s o (Is v) f a = a

  differing_agrees : (s t : Tree) (b : Bool) (o p : Option Name) → types_differ o p ≡ b →
      ((u : Name) → o ≡ Some u → IsTyped u (meaning facts request s)) → ((u : Name) → p ≡ Some u → IsTyped u (meaning facts request t)) →
      Below (equal_by_types b) (meant (Apply Equal (a_tree s (a_tree t no_trees))))
  differing_agrees s t true (Some u) (Some w) d f g =
      let (a, is, of_type) = f u refl in
      let (b, are, of_other) = g w refl in
      rw (is, are) (rw (other_type a b u w of_type of_other d) refl)
  differing_agrees s t false o p d f g = tt
  differing_agrees s t true _ _ d f g = cc

  equal_agrees : (s t : Tree) (o p : Option Name) (x : Settling) →
      ((u : Name) → o ≡ Some u → IsTyped u (meaning facts request s)) → ((u : Name) → p ≡ Some u → IsTyped u (meaning facts request t)) →
      Below x (meant (Apply Equal (a_tree s (a_tree t no_trees)))) → Below (or_type Equal (o ∷ p ∷ []) x) (meant (Apply Equal (a_tree s (a_tree t no_trees))))
  equal_agrees s t o p Open f g a = differing_agrees s t (types_differ o p) o p refl f g
  equal_agrees s t o p _ f g a = a

  -- of each operand the type that is known is that of the entity which it means
  abbrev TypesAgree : Trees → Type 0
  TypesAgree no_trees = Unit {0}
  TypesAgree (a_tree t ts) = ((u : Name) → type_known (settled_in facts around t) (stated_in around t) ≡ Some u → IsTyped u (meaning facts request t)) × TypesAgree ts

  types_agree : (op : Operator) (ts : Trees) (x : Settling) → TypesAgree ts → Below x (meant (Apply op ts)) → Below (or_type op (types_in facts around ts) x) (meant (Apply op ts))
  types_agree (tree.Is ty) (a_tree s no_trees) x f a = is_agrees ty s (type_known (settled_in facts around s) (stated_in around s)) x f.0 a
  types_agree Equal (a_tree s (a_tree t no_trees)) x f a =
      equal_agrees s t (type_known (settled_in facts around s) (stated_in around s)) (type_known (settled_in facts around t) (stated_in around t)) x f.0 f.1.0 a
  types_agree op ts x f a = a

  mutual
    pub tree_agrees : (t : Tree) → EachLeaf without_names t → Below (settled_in facts around t) (meant t)
    tree_agrees (Lit l) h = refl
    tree_agrees (Var v) h = leaves.variable v
    tree_agrees (Slot s) h = leaves.slot s
    tree_agrees (Unknown n ty) h = absurd h
    tree_agrees (If t y n) (h, i, j) =
        subst (Below (if_settled (settled_in facts around t) (settled_in facts around y) (settled_in facts around n))) (if_is (meaning facts request t) (meaning facts request y) (meaning facts request n))
        (if_mono _ _ _ _ _ _ (tree_agrees t h) (tree_agrees y i) (tree_agrees n j))
    tree_agrees (And l r) (h, i) =
        subst (Below (and_settled (settled_in facts around l) (settled_in facts around r))) (and_is (meaning facts request l) (meaning facts request r)) (and_mono _ _ _ _ (tree_agrees l h) (tree_agrees r i))
    tree_agrees (Or l r) (h, i) =
        subst (Below (or_settled (settled_in facts around l) (settled_in facts around r))) (or_is (meaning facts request l) (meaning facts request r)) (or_mono _ _ _ _ (tree_agrees l h) (tree_agrees r i))
    tree_agrees (Apply op ts) h =
        types_agree op ts (or_entry around op ts (apply_settled facts op (all_settled_in facts around ts))) (operands_typed ts h)
        (entry_agrees op ts _ (subst (Below (apply_settled facts op (all_settled_in facts around ts))) (apply_is facts op (meanings facts request ts)) (apply_mono facts op _ _ (trees_agree ts h))))

    trees_agree : (ts : Trees) → EachLeafOf without_names ts → BelowAll (all_settled_in facts around ts) (kindless_all (meanings facts request ts))
    trees_agree no_trees h = refl
    trees_agree (a_tree t ts) (h, i) =
        subst (BelowAll (and_more (settled_in facts around t) (all_settled_in facts around ts))) (more_is (meaning facts request t) (meanings facts request ts)) (more_mono _ _ _ _ (tree_agrees t h) (trees_agree ts i))

    operands_typed : (ts : Trees) → EachLeafOf without_names ts → TypesAgree ts
    operands_typed no_trees h = tt
    operands_typed (a_tree t ts) (h, i) = ((λ u e. operand_typed t u (settled_in facts around t) h (tree_agrees t h) e), operands_typed ts i)
