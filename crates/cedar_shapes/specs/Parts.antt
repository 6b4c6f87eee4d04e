-- The parts of a tree: the trees right below it, from the left.
use Rattle.std.specs.Prelude.{ℕ, max, List, [], ◌∷◌}
use Rattle.cedar_language.specs.Tree.{Tree, Lit, Var, Slot, Unknown, If, And, Or, Apply, Trees, no_trees, a_tree}
use Rattle.cedar_language.specs.Height.{height}

abbrev pub listed : Trees → List Tree
listed no_trees = []
listed (a_tree t ts) = t ∷ listed ts

abbrev pub parts : Tree → List Tree
parts (Lit l) = []
parts (Var v) = []
parts (Slot s) = []
parts (Unknown n ty) = []
parts (If t y n) = t ∷ y ∷ n ∷ []
parts (And l r) = l ∷ r ∷ []
parts (Or l r) = l ∷ r ∷ []
parts (Apply op ts) = listed ts

-- the height of the highest of these trees
abbrev pub highest : List Tree → ℕ
highest [] = 0
highest (t ∷ ts) = max (height t) (highest ts)
