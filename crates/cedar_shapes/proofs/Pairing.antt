-- Steps of a comparison by pairs of parts.
use Rattle.std.proofs.Common.{◌≡◌, refl, sym, ap, ◌∙◌, ◌<◌, ◌≤◌, max, List, [], ◌∷◌, length, arith, true, false}
use Rattle.std.specs.declared.cmp.Ordering.{Ordering}
use Rattle.std.specs.declared.cmp.Ordering.TheVariants.{Less, Equal, Greater}
use Rattle.std.specs.Ordering.{ordering_then, is_ne}
use Rattle.cedar_language.specs.Tree.{Tree}
use Rattle.cedar_language.specs.Order.{nodes_cmp}
use Rattle.cedar_language.specs.Height.{height}
use Rattle.cedar_shapes.specs.Parts.{parts, highest}
use Rattle.cedar_shapes.specs.ShapeOrder.{tree_cmp}
use Rattle.cedar_shapes.specs.Lists.{nodes_of, turned_nodes, here_cmp, both, pairs_cmp, left_highest}
use Rattle.cedar_shapes.proofs.MarkOrder.{stops}
use Rattle.cedar_shapes.proofs.Steps.{turned_cmp, fewer, differs, as_many, goes_on, parts_lower}

pub both_none : (xs : List Tree) → both xs [] ≡ []
both_none [] = refl
both_none (x ∷ xs) = refl

nodes_pairs : (xs ys : List Tree) → length xs ≡ length ys → nodes_cmp (nodes_of xs) (nodes_of ys) ≡ pairs_cmp (both xs ys)
nodes_pairs [] [] h = refl
nodes_pairs [] (y ∷ ys) h = absurd (cc)
nodes_pairs (x ∷ xs) [] h = absurd (cc)
nodes_pairs (x ∷ xs) (y ∷ ys) h = ap (ordering_then (tree_cmp x y)) (nodes_pairs xs ys (fewer xs ys h))

-- the first pair last
abbrev turned_pairs : List (Tree × Tree) → Ordering
turned_pairs [] = Equal
turned_pairs (p ∷ ps) = ordering_then (pairs_cmp ps) (tree_cmp p.0 p.1)

turned_are : (xs ys : List Tree) → length xs ≡ length ys → nodes_cmp (turned_nodes xs) (turned_nodes ys) ≡ turned_pairs (both xs ys)
turned_are [] [] h = refl
turned_are [] (y ∷ ys) h = absurd (cc)
turned_are (x ∷ xs) [] h = absurd (cc)
turned_are (x ∷ xs) (y ∷ ys) h =
    turned_cmp xs ys x y (fewer xs ys h) ∙ ap (λ o. ordering_then o (tree_cmp x y)) (nodes_pairs xs ys (fewer xs ys h))

not_equal : (o : Ordering) → is_ne o ≡ true → o ≡ Equal → ⊥
not_equal Less h e = cc
not_equal Equal h e = cc
not_equal Greater h e = cc

equal : (o : Ordering) → is_ne o ≡ false → o ≡ Equal
equal Less h = absurd (cc)
equal Equal h = refl
equal Greater h = absurd (cc)

left_lower : (xs ys : List Tree) → left_highest (both xs ys) ≤ highest xs
left_lower [] ys = omega arith
left_lower (x ∷ xs) [] = omega arith
left_lower (x ∷ xs) (y ∷ ys) = omega (arith, left_lower xs ys)

-- s and t, at one level of a comparison
module _ (s t : Tree) where
  pub pair_differs : is_ne (here_cmp s t) ≡ true → here_cmp s t ≡ tree_cmp s t
  pair_differs h = sym (differs s t (not_equal (here_cmp s t) h))

  pairs_decide : is_ne (here_cmp s t) ≡ false → tree_cmp s t ≡ turned_pairs (both (parts s) (parts t))
  pairs_decide h = goes_on s t (equal (here_cmp s t) h) ∙ turned_are (parts s) (parts t) (as_many s t (equal (here_cmp s t) h))

  pub pair_ends : is_ne (here_cmp s t) ≡ false → both (parts s) (parts t) ≡ [] → Equal ≡ tree_cmp s t
  pair_ends h e = sym (pairs_decide h ∙ ap turned_pairs e)

  module _ (x y : Tree) (ps : List (Tree × Tree)) (e : both (parts s) (parts t) ≡ (x, y) ∷ ps) where
    pub pair_others : is_ne (here_cmp s t) ≡ false → is_ne (pairs_cmp ps) ≡ true → pairs_cmp ps ≡ tree_cmp s t
    pair_others h d = sym (pairs_decide h ∙ ap turned_pairs e ∙ stops (pairs_cmp ps) (tree_cmp x y) (not_equal (pairs_cmp ps) d))

    pub pair_goes_on : is_ne (here_cmp s t) ≡ false → is_ne (pairs_cmp ps) ≡ false → tree_cmp s t ≡ tree_cmp x y
    pair_goes_on h d = pairs_decide h ∙ ap turned_pairs e ∙ ap (λ o. ordering_then o (tree_cmp x y)) (equal (pairs_cmp ps) d)

    both_left : max (height x) (left_highest ps) ≤ highest (parts s)
    both_left = rw (sym (ap left_highest e)) (left_lower (parts s) (parts t))

    pub pair_lower : height x < height s
    pair_lower = omega (arith, both_left, parts_lower s)

    pub pairs_lower : left_highest ps < height s
    pairs_lower = omega (arith, both_left, parts_lower s)
