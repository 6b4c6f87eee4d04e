-- Codes of trees and of what entities hold, which a model's value needs.
use Rattle.std.specs.Prelude.{◌≡◌, ◌⊎◌, refl}
use Rattle.std.specs.Coded.{Coded, code_by, coded⊎}
use Rattle.std.proofs.Common.{sym, ap, subst, ◌∙◌, inl, inr}
use Rattle.either.specs.declared.Either.{Either}
use Rattle.either.specs.declared.Either.TheVariants.{Left, Right}
use base.Stored.{Gv, gnil, gnum, gcons}
use Rattle.std.specs.Cmp.{tied_itself}
use Rattle.cedar_language.specs.Tree.{Tree}
use Rattle.cedar_language.specs.Order.{Node, node, Nodes, no_nodes, a_node, node_cmp}
use Rattle.cedar_language.specs.OrderLaws.{node_gv, nodes_gv, head_code, node_cmp_total}
use Rattle.cedar_shapes.specs.ShapeOrder.{shape}
use Rattle.cedar_shapes.specs.ShapeLaws.{tree_cmp_same}

abbrev first_of : Gv → Gv
first_of gnil = gnil
first_of (gnum n) = gnil
first_of (gcons a b) = a

abbrev second_of : Gv → Gv
second_of gnil = gnil
second_of (gnum n) = gnil
second_of (gcons a b) = b

abbrev IsPair : Gv → Type 0
IsPair gnil = ⊥
IsPair (gnum n) = ⊥
IsPair (gcons a b) = Unit {0}

mutual
  node_gv_inj : (x y : Node) → node_gv x ≡ node_gv y → x ≡ y
  node_gv_inj (node h ns) (node i ms) p =
      let a : h ≡ i = head_code.inj h i (ap first_of p) in
      let b : ns ≡ ms = nodes_gv_inj ns ms (ap second_of p) in cc

  nodes_gv_inj : (xs ys : Nodes) → nodes_gv xs ≡ nodes_gv ys → xs ≡ ys
  nodes_gv_inj no_nodes no_nodes p = refl
  nodes_gv_inj no_nodes (a_node m ms) p = absurd (subst IsPair (sym p) tt)
  nodes_gv_inj (a_node n ns) no_nodes p = absurd (subst IsPair p tt)
  nodes_gv_inj (a_node n ns) (a_node m ms) p =
      let a : n ≡ m = node_gv_inj n m (ap first_of p) in
      let b : ns ≡ ms = nodes_gv_inj ns ms (ap second_of p) in cc

pub shape_inj : (s t : Tree) → node_gv (shape s) ≡ node_gv (shape t) → s ≡ t
shape_inj s t p = tree_cmp_same s t (ap (node_cmp (shape s)) (sym (node_gv_inj (shape s) (shape t) p)) ∙ tied_itself node_cmp_total (shape s))

abbrev pub tree_code : Coded Tree
tree_code = record { code = λ t. node_gv (shape t); inj = shape_inj }

module _ {A B : Type 0} where
  abbrev sides : Either A B → A ⊎ B
  sides (Left a) = inl a
  sides (Right b) = inr b

  abbrev side : A ⊎ B → Either A B
  side (inl a) = Left a
  side (inr b) = Right b

  pub side-sides : (e : Either A B) → side (sides e) ≡ e
  side-sides (Left a) = refl
  side-sides (Right b) = refl

  abbrev pub either_code : Coded A → Coded B → Coded (Either A B)
  either_code a b = code_by (A ⊎ B) (coded⊎ a b) sides side side-sides
