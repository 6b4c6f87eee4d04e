-- The positions of a tree, and a walk over them by a stack.
use Rattle.std.specs.Prelude.{ℕ, ◌+◌, max, List, [], ◌∷◌, ◌++◌}
use Rattle.cedar_language.specs.Tree.{Tree, Lit, Var, Slot, Unknown, If, And, Or, Apply, Trees, no_trees, a_tree}

-- the tree at each position once: a tree before those in it, its last part before its first
abbrev mutual
  pub positions : Tree → List Tree
  positions (Lit l) = Lit l ∷ []
  positions (Var v) = Var v ∷ []
  positions (Slot s) = Slot s ∷ []
  positions (Unknown n ty) = Unknown n ty ∷ []
  positions (If t y n) = If t y n ∷ (positions n ++ positions y) ++ positions t
  positions (And l r) = And l r ∷ positions r ++ positions l
  positions (Or l r) = Or l r ∷ positions r ++ positions l
  positions (Apply op ts) = Apply op ts ∷ all_positions ts

  pub all_positions : Trees → List Tree
  all_positions no_trees = []
  all_positions (a_tree t ts) = all_positions ts ++ positions t

-- what is still to come where these trees lie on a stack, the last one on top
abbrev pub waiting : List Tree → List Tree
waiting [] = []
waiting (t ∷ ts) = waiting ts ++ positions t

-- how long a stack gets from one tree on it
abbrev mutual
  pub need : Tree → ℕ
  need (Lit l) = 1
  need (Var v) = 1
  need (Slot s) = 1
  need (Unknown n ty) = 1
  need (If t y n) = max (need t) (1 + max (need y) (1 + need n))
  need (And l r) = max (need l) (1 + need r)
  need (Or l r) = max (need l) (1 + need r)
  need (Apply op ts) = max 1 (needs ts)

  pub needs : Trees → ℕ
  needs no_trees = 0
  needs (a_tree t ts) = max (need t) (1 + needs ts)

-- how long it gets from these
abbrev pub need_all : List Tree → ℕ
need_all [] = 0
need_all (t ∷ ts) = max (need t) (1 + need_all ts)
