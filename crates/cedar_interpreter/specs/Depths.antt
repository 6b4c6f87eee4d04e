-- How deep the evaluation of a tree nests, by what is evaluated of it, its outermost construct being at 1.
use Rattle.std.specs.Prelude.{ℕ, suc, max, true, false}
use Rattle.cedar_language.specs.Tree.{Boolean, GetAttr, Operator, Tree, Lit, Var, Slot, Unknown, If, And, Or, Apply, Trees, no_trees, a_tree}
use Rattle.cedar_language.specs.Value.{Plain}
use Rattle.cedar_language.specs.Facts.{Facts}
use Rattle.cedar_language.specs.Height.{height}
use Rattle.cedar_partial_evaluation.specs.Partial.{Answer, Evaluated, ResidualTree, Failed, LeafAnswers, partial_in}

-- how high what is left is
abbrev pub left_height : Answer → ℕ
left_height (ResidualTree r) = height r
left_height (Evaluated v) = 0
left_height (Failed k) = 0

-- where an attribute is read of what is left of something, an entry of that is evaluated again
abbrev pub read_again : Facts → LeafAnswers → Operator → Trees → ℕ
read_again facts holds (GetAttr a) (a_tree t no_trees) = left_height (partial_in facts holds t)
read_again facts holds op ts = 0

-- of two branches the one that the test takes is evaluated, both where the test isn't known, and none where it errs or is no Boolean
abbrev pub branch_depth : Answer → ℕ → ℕ → ℕ
branch_depth (Evaluated (Plain (Boolean true))) met unmet = met
branch_depth (Evaluated (Plain (Boolean false))) met unmet = unmet
branch_depth (Evaluated v) met unmet = 0
branch_depth (ResidualTree r) met unmet = max met unmet
branch_depth (Failed k) met unmet = 0

-- behind an operand that errs none is evaluated
abbrev pub depth_behind : Answer → ℕ → ℕ
depth_behind (Evaluated v) depth = depth
depth_behind (ResidualTree r) depth = depth
depth_behind (Failed k) depth = 0

-- an evaluation goes down the tree, and where an attribute is read also down what is left of what it is read of
abbrev mutual
  pub evaluation_depth : Facts → LeafAnswers → Tree → ℕ
  evaluation_depth facts holds (Lit l) = 1
  evaluation_depth facts holds (Var v) = 1
  evaluation_depth facts holds (Slot s) = 1
  evaluation_depth facts holds (Unknown n ty) = 1
  evaluation_depth facts holds (If t y n) =
      suc (max (evaluation_depth facts holds t) (branch_depth (partial_in facts holds t) (evaluation_depth facts holds y) (evaluation_depth facts holds n)))
  evaluation_depth facts holds (And l r) = suc (max (evaluation_depth facts holds l) (branch_depth (partial_in facts holds l) (evaluation_depth facts holds r) 0))
  evaluation_depth facts holds (Or l r) = suc (max (evaluation_depth facts holds l) (branch_depth (partial_in facts holds l) 0 (evaluation_depth facts holds r)))
  evaluation_depth facts holds (Apply op ts) = max (suc (evaluation_depths facts holds ts)) (read_again facts holds op ts)

  pub evaluation_depths : Facts → LeafAnswers → Trees → ℕ
  evaluation_depths facts holds no_trees = 0
  evaluation_depths facts holds (a_tree t ts) = max (evaluation_depth facts holds t) (depth_behind (partial_in facts holds t) (evaluation_depths facts holds ts))
