-- Steps of a comparison and of a feeding.
use Rattle.std.proofs.Common.{◌≡◌, refl, sym, ap, ◌∙◌, ℕ, ◌<◌, max, suc, List, [], ◌∷◌, ◌++◌, length, arith}
use Rattle.std.proofs.lemmas.List.{append-nil}
use Rattle.std.specs.declared.cmp.Ordering.{Ordering}
use Rattle.std.specs.declared.cmp.Ordering.TheVariants.{Less, Equal, Greater}
use Rattle.std.specs.Ordering.{ordering_then, nat_cmp}
use Rattle.std.specs.FinMap.{nat_cmp-IsAntisymmetric}
use Rattle.std.specs.Hash as fed
use Rattle.std.specs.Hash.{fed_then}
use Rattle.std.specs.List.{fold}
use Rattle.cedar_language.specs.Tree.{Tree, Lit, Var, Slot, Unknown, If, And, Or, Apply, Trees, no_trees, a_tree}
use Rattle.cedar_language.specs.Order.{Node, Nodes, a_node, node_cmp, nodes_cmp}
use Rattle.cedar_language.specs.Height.{height, heights}
use Rattle.cedar_shapes.specs.Parts.{listed, parts, highest}
use Rattle.cedar_shapes.specs.ShapeOrder.{mark, marked, followed, shape, shapes, first_last, tree_cmp}
use Rattle.cedar_shapes.specs.ShapeHash.{mark_hash, shape_hash, shapes_hash, first_last_hash}
use Rattle.cedar_shapes.specs.Lists.{nodes_of, fed_of, turned_nodes, turned_fed, here_cmp, here_fed}
use Rattle.cedar_shapes.proofs.MarkOrder.{then_equal, stops}

-- ---- heights

pub heights_listed : (ts : Trees) → heights ts ≡ highest (listed ts)
heights_listed no_trees = refl
heights_listed (a_tree t ts) = ap (λ n. max (height t) n) (heights_listed ts)

pub parts_lower : (t : Tree) → highest (parts t) < height t
parts_lower (Lit l) = omega arith
parts_lower (Var v) = omega arith
parts_lower (Slot s) = omega arith
parts_lower (Unknown n ty) = omega arith
parts_lower (If t y n) = omega arith
parts_lower (And l r) = omega arith
parts_lower (Or l r) = omega arith
parts_lower (Apply op ts) = omega (arith, heights_listed ts)

-- ---- shapes, from the parts in a list

shapes_listed : (ts : Trees) → shapes ts ≡ nodes_of (listed ts)
shapes_listed no_trees = refl
shapes_listed (a_tree t ts) = ap (a_node (shape t)) (shapes_listed ts)

turned_listed : (ts : Trees) → first_last ts ≡ turned_nodes (listed ts)
turned_listed no_trees = refl
turned_listed (a_tree t ts) = ap (λ ns. followed ns (shape t)) (shapes_listed ts)

shape_from : (t : Tree) → shape t ≡ marked (length (parts t)) (mark t) (turned_nodes (parts t))
shape_from (Lit l) = refl
shape_from (Var v) = refl
shape_from (Slot s) = refl
shape_from (Unknown n ty) = refl
shape_from (If t y n) = refl
shape_from (And l r) = refl
shape_from (Or l r) = refl
shape_from (Apply op ts) = ap (marked (length (listed ts)) (mark (Apply op ts))) (turned_listed ts)

marked_cmp : (m n : ℕ) (x y : Node) (xs ys : Nodes) → node_cmp (marked m x xs) (marked n y ys) ≡ ordering_then (nat_cmp m n) (ordering_then (node_cmp x y) (nodes_cmp xs ys))
marked_cmp m n x y xs ys = ap (λ o. ordering_then o (ordering_then (node_cmp x y) (nodes_cmp xs ys))) (then_equal (nat_cmp m n))

pub cmp_from : (s t : Tree) → tree_cmp s t ≡ ordering_then (nat_cmp (length (parts s)) (length (parts t))) (ordering_then (node_cmp (mark s) (mark t)) (nodes_cmp (turned_nodes (parts s)) (turned_nodes (parts t))))
cmp_from s t = rw (shape_from s, shape_from t) (marked_cmp (length (parts s)) (length (parts t)) (mark s) (mark t) (turned_nodes (parts s)) (turned_nodes (parts t)))

pub then_then : (p q r : Ordering) → ordering_then p (ordering_then q r) ≡ ordering_then (ordering_then p q) r
then_then Less q r = refl
then_then Equal q r = refl
then_then Greater q r = refl

pub turned_cmp : (xs ys : List Tree) (x y : Tree) → length xs ≡ length ys → nodes_cmp (followed (nodes_of xs) (shape x)) (followed (nodes_of ys) (shape y)) ≡ ordering_then (nodes_cmp (nodes_of xs) (nodes_of ys)) (tree_cmp x y)
turned_cmp [] [] x y h = then_equal (tree_cmp x y)
turned_cmp [] (v ∷ vs) x y h = absurd (cc)
turned_cmp (u ∷ us) [] x y h = absurd (cc)
turned_cmp (u ∷ us) (v ∷ vs) x y h =
    let shorter : length us ≡ length vs = omega (arith, h) in
    ap (ordering_then (tree_cmp u v)) (turned_cmp us vs x y shorter) ∙ then_then (tree_cmp u v) (nodes_cmp (nodes_of us) (nodes_of vs)) (tree_cmp x y)

pub nat_equal : (m n : ℕ) → nat_cmp m n ≡ Equal → m ≡ n
nat_equal m n h = nat_cmp-IsAntisymmetric m n h

pub none : (ts : List Tree) → 0 ≡ length ts → ts ≡ []
none [] h = refl
none (t ∷ ts) h = absurd (cc)

pub fewer : (xs ys : List Tree) → suc (length xs) ≡ suc (length ys) → length xs ≡ length ys
fewer xs ys h = omega (arith, h)

-- ---- a turn of the comparison: how many parts, the marks, then the others, then the first

pub both_tied : (p q : Ordering) → ordering_then p q ≡ Equal → p ≡ Equal
both_tied Less q h = absurd (cc)
both_tied Equal q h = refl
both_tied Greater q h = absurd (cc)

module _ (s t : Tree) where
  level : tree_cmp s t ≡ ordering_then (here_cmp s t) (nodes_cmp (turned_nodes (parts s)) (turned_nodes (parts t)))
  level = cmp_from s t ∙ then_then (nat_cmp (length (parts s)) (length (parts t))) (node_cmp (mark s) (mark t)) (nodes_cmp (turned_nodes (parts s)) (turned_nodes (parts t)))

  pub differs : (here_cmp s t ≡ Equal → ⊥) → tree_cmp s t ≡ here_cmp s t
  differs h = level ∙ stops (here_cmp s t) (nodes_cmp (turned_nodes (parts s)) (turned_nodes (parts t))) h

  module _ (same : here_cmp s t ≡ Equal) where
    pub as_many : length (parts s) ≡ length (parts t)
    as_many = nat_equal (length (parts s)) (length (parts t)) (both_tied (nat_cmp (length (parts s)) (length (parts t))) (node_cmp (mark s) (mark t)) same)

    pub goes_on : tree_cmp s t ≡ nodes_cmp (turned_nodes (parts s)) (turned_nodes (parts t))
    goes_on = level ∙ ap (λ o. ordering_then o (nodes_cmp (turned_nodes (parts s)) (turned_nodes (parts t)))) same

-- ---- heights of the parts

module _ (t x : Tree) (xs : List Tree) (p : parts t ≡ x ∷ xs) where
  both_lower : max (height x) (highest xs) < height t
  both_lower = rw (sym (ap highest p)) (parts_lower t)

  pub first_lower : height x < height t
  first_lower = omega (arith, both_lower)

  pub others_lower : highest xs < height t
  others_lower = omega (arith, both_lower)

-- ---- what is fed

fed_listed : (ts : Trees) → shapes_hash ts ≡ fed_of (listed ts)
fed_listed no_trees = refl
fed_listed (a_tree t ts) = ap (λ us. shape_hash t ++ us) (fed_listed ts)

turned_fed_listed : (ts : Trees) → first_last_hash ts ≡ turned_fed (listed ts)
turned_fed_listed no_trees = refl
turned_fed_listed (a_tree t ts) = ap (λ us. us ++ shape_hash t) (fed_listed ts)

pub fed_from : (t : Tree) → shape_hash t ≡ fed.usize (length (parts t)) ++ mark_hash t ++ turned_fed (parts t)
fed_from (Lit l) = ap (λ us. fed.usize 0 ++ us) (sym (append-nil (mark_hash (Lit l))))
fed_from (Var v) = ap (λ us. fed.usize 0 ++ us) (sym (append-nil (mark_hash (Var v))))
fed_from (Slot s) = ap (λ us. fed.usize 0 ++ us) (sym (append-nil (mark_hash (Slot s))))
fed_from (Unknown n ty) = ap (λ us. fed.usize 0 ++ us) (sym (append-nil (mark_hash (Unknown n ty))))
fed_from (If t y n) = ap (λ us. fed.usize 3 ++ mark_hash (If t y n) ++ (shape_hash y ++ us ++ shape_hash t)) (sym (append-nil (shape_hash n)))
fed_from (And l r) = ap (λ us. fed.usize 2 ++ mark_hash (And l r) ++ us ++ shape_hash l) (sym (append-nil (shape_hash r)))
fed_from (Or l r) = ap (λ us. fed.usize 2 ++ mark_hash (Or l r) ++ us ++ shape_hash l) (sym (append-nil (shape_hash r)))
fed_from (Apply op ts) = ap (λ us. fed.usize (length (listed ts)) ++ mark_hash (Apply op ts) ++ us) (turned_fed_listed ts)

module _ {S : Type 0} (write : S → List ℕ → S) (s0 s1 : S) (t : Tree) (h : s1 ≡ fold write s0 (here_fed t)) where
  fed_level : fold write s0 (shape_hash t) ≡ fold write s1 (turned_fed (parts t))
  fed_level = ap (fold write s0) (fed_from t) ∙ sym (fed_then write s0 s1 (fold write s1 (turned_fed (parts t))) (here_fed t) (turned_fed (parts t)) h refl)

  pub fed_ends : parts t ≡ [] → fold write s0 (shape_hash t) ≡ s1
  fed_ends p = fed_level ∙ ap (λ qs. fold write s1 (turned_fed qs)) p

  pub fed_goes_on : (x : Tree) (xs : List Tree) (s2 : S) → parts t ≡ x ∷ xs → s2 ≡ fold write s1 (fed_of xs) → fold write s0 (shape_hash t) ≡ fold write s2 (shape_hash x)
  fed_goes_on x xs s2 p i = fed_level ∙ ap (λ qs. fold write s1 (turned_fed qs)) p ∙ sym (fed_then write s1 s2 (fold write s2 (shape_hash x)) (fed_of xs) (shape_hash x) i refl)
