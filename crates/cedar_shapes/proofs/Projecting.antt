-- Which trees are projectable, from their constructs and their parts.
use Rattle.std.proofs.Common.{◌≡◌, refl, sym, ap, ◌∙◌, true, false}
use Rattle.std.specs.Prelude.{◌&&◌}
use Rattle.std.specs.List.{list_all}
use Rattle.cedar_language.specs.Tree.{Operator, Not, Neg, IsEmpty, Equal, Less, LessEq, Add, Sub, Mul, In, Contains, ContainsAll, ContainsAny, GetTag, HasTag, GetAttr, HasAttr, HasPath, Like, Is, MakeSet, MakeRecord, Call, Tree, Lit, Var, Slot, Unknown, If, And, Or, Apply, Trees, no_trees, a_tree}
use Rattle.cedar_shapes.specs.Parts.{listed, parts}
use Rattle.cedar_shapes.specs.Leaves.{is_projectable, are_projectable, is_list_operator, is_projectable_kind}

are_listed : (ts : Trees) → are_projectable ts ≡ list_all is_projectable (listed ts)
are_listed no_trees = refl
are_listed (a_tree t ts) = ap (λ b. is_projectable t && b) (are_listed ts)

by_operator : (op : Operator) (ts : Trees) → is_projectable (Apply op ts) ≡ (is_list_operator op && list_all is_projectable (listed ts))
by_operator MakeSet ts = are_listed ts
by_operator (MakeRecord ks) ts = are_listed ts
by_operator Not ts = refl
by_operator Neg ts = refl
by_operator IsEmpty ts = refl
by_operator Equal ts = refl
by_operator Less ts = refl
by_operator LessEq ts = refl
by_operator Add ts = refl
by_operator Sub ts = refl
by_operator Mul ts = refl
by_operator In ts = refl
by_operator Contains ts = refl
by_operator ContainsAll ts = refl
by_operator ContainsAny ts = refl
by_operator GetTag ts = refl
by_operator HasTag ts = refl
by_operator (GetAttr a) ts = refl
by_operator (HasAttr a) ts = refl
by_operator (HasPath a as_) ts = refl
by_operator (Like p) ts = refl
by_operator (Is n) ts = refl
by_operator (Call f) ts = refl

projectable_from : (t : Tree) → is_projectable t ≡ (is_projectable_kind t && list_all is_projectable (parts t))
projectable_from (Lit l) = refl
projectable_from (Var v) = refl
projectable_from (Slot s) = refl
projectable_from (Unknown n ty) = refl
projectable_from (If t y n) = refl
projectable_from (And l r) = refl
projectable_from (Or l r) = refl
projectable_from (Apply op ts) = by_operator op ts

module _ (t : Tree) where
  pub other_kind : is_projectable_kind t ≡ false → false ≡ is_projectable t
  other_kind h = sym (projectable_from t ∙ ap (λ b. b && list_all is_projectable (parts t)) h)

  pub parts_decide : is_projectable_kind t ≡ true → list_all is_projectable (parts t) ≡ is_projectable t
  parts_decide h = sym (projectable_from t ∙ ap (λ b. b && list_all is_projectable (parts t)) h)
