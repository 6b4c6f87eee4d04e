-- Steps of a comparison and of a feeding: one level, and the parts in a list.
use Rattle.std.specs.Prelude.{ℕ, max, List, [], ◌∷◌, ◌++◌, length}
use Rattle.std.specs.declared.cmp.Ordering.{Ordering}
use Rattle.std.specs.declared.cmp.Ordering.TheVariants.{Equal}
use Rattle.std.specs.Ordering.{ordering_then, nat_cmp}
use Rattle.std.specs.Hash as fed
use Rattle.std.specs.Hash.{HashWrites}
use Rattle.cedar_language.specs.Tree.{Tree}
use Rattle.cedar_language.specs.Height.{height}
use Rattle.cedar_language.specs.Order.{Nodes, no_nodes, a_node, node_cmp}
use Rattle.cedar_shapes.specs.Parts.{parts}
use Rattle.cedar_shapes.specs.ShapeOrder.{shape, followed, mark, tree_cmp}
use Rattle.cedar_shapes.specs.ShapeHash.{shape_hash, mark_hash}

abbrev pub nodes_of : List Tree → Nodes
nodes_of [] = no_nodes
nodes_of (t ∷ ts) = a_node (shape t) (nodes_of ts)

abbrev pub fed_of : List Tree → HashWrites
fed_of [] = []
fed_of (t ∷ ts) = shape_hash t ++ fed_of ts

-- the same with the first one last
abbrev pub turned_nodes : List Tree → Nodes
turned_nodes [] = no_nodes
turned_nodes (t ∷ ts) = followed (nodes_of ts) (shape t)

abbrev pub turned_fed : List Tree → HashWrites
turned_fed [] = []
turned_fed (t ∷ ts) = fed_of ts ++ shape_hash t

-- what stands at one level of two trees: how many parts, and which constructs
abbrev pub here_cmp : Tree → Tree → Ordering
here_cmp s t = ordering_then (nat_cmp (length (parts s)) (length (parts t))) (node_cmp (mark s) (mark t))

abbrev pub here_fed : Tree → HashWrites
here_fed t = fed.usize (length (parts t)) ++ mark_hash t

-- each tree with the one at its place in the other list
abbrev pub both : List Tree → List Tree → List (Tree × Tree)
both [] ys = []
both (x ∷ xs) [] = []
both (x ∷ xs) (y ∷ ys) = (x, y) ∷ both xs ys

abbrev pub pairs_cmp : List (Tree × Tree) → Ordering
pairs_cmp [] = Equal
pairs_cmp (p ∷ ps) = ordering_then (tree_cmp p.0 p.1) (pairs_cmp ps)

-- the height of the highest tree on the left
abbrev pub left_highest : List (Tree × Tree) → ℕ
left_highest [] = 0
left_highest (p ∷ ps) = max (height p.0) (left_highest ps)
