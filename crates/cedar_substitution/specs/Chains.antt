-- Chains: trees each of which is the first part of the next.
use Rattle.std.specs.Prelude.{List, [], ◌∷◌, Bool, true, false, cond, Option, Some, None, Result, Ok, map}
use denote.Ref.{Bor}
use Rattle.cedar_language.specs.Uid.{Text}
use Rattle.cedar_language.specs.Tree as tree
use Rattle.cedar_language.specs.Tree.{ValueType, Operator, Tree, Trees}
use Rattle.cedar_trees.specs.Bare.{bare}
use Rattle.cedar_trees.specs.declared.expr.Expr.{Expr}
use Rattle.cedar_builders.specs.Operations.{Operations, ◌>>=◌, operated, made, made_all, built}

-- the operators whose operands are a list
abbrev pub takes_list : Operator → Bool
takes_list tree.MakeSet = true
takes_list (tree.MakeRecord ks) = true
takes_list (tree.Call f) = true
takes_list op = false

abbrev pub first_of_all : Trees → Option Tree
first_of_all tree.no_trees = None
first_of_all (tree.a_tree t ts) = Some t

-- the tree along which a chain goes down
abbrev pub first_of : Tree → Option Tree
first_of (tree.Lit l) = None
first_of (tree.Var v) = None
first_of (tree.Slot s) = None
first_of (tree.Unknown n ty) = None
first_of (tree.If a b c) = Some a
first_of (tree.And a b) = Some a
first_of (tree.Or a b) = Some a
first_of (tree.Apply op ts) = cond (takes_list op) None (first_of_all ts)

-- what a builder makes of the trees that stand for unknowns
abbrev pub with_built : {M R : Type 0} → Operations M R → (Text → Option ValueType → Tree) → Text → Option ValueType → Result M R
with_built o f n ty = built o (f n ty)

module _ {M R : Type 0} (o : Operations M R) (u : Text → Option ValueType → Result M R) where
  -- what is made of a tree of which this is the first part
  abbrev pub refilled : Tree → M → Result M R
  refilled (tree.Lit l) x = Ok x
  refilled (tree.Var v) x = Ok x
  refilled (tree.Slot s) x = Ok x
  refilled (tree.Unknown n ty) x = Ok x
  refilled (tree.If a b c) x = made o u b >>= λ y. made o u c >>= λ z. Ok (o.ite x y z)
  refilled (tree.And a b) x = made o u b >>= λ y. Ok (o.and x y)
  refilled (tree.Or a b) x = made o u b >>= λ y. Ok (o.or x y)
  refilled (tree.Apply op tree.no_trees) x = Ok x
  refilled (tree.Apply op (tree.a_tree t ts)) x = made_all o u ts >>= λ xs. operated o op (x ∷ xs)

  -- what is made of a chain, the last tree next to what is made
  abbrev pub chained : List Tree → Result M R → Result M R
  chained [] made = made
  chained (t ∷ ts) made = chained ts made >>= refilled t

abbrev pub chain_of : {T : Type 0} → List (Bor (Expr T)) → List Tree
chain_of es = map (λ e. bare e.now) es
