-- The conversion of what a loop has read.
use Rattle.std.proofs.Common.{◌≡◌, List, [], ◌∷◌, Some, refl, ap}
use Rattle.std.specs.Prelude.{map}
use Rattle.cedar_language.specs.Tree.{Tree}
use Rattle.cedar_grammar.specs.Names.{Names}
use Rattle.cedar_grammar.specs.Build.{conjunction, disjunction}
use Rattle.cedar_grammar.specs.Steps.{◌>>=◌}
use Rattle.cedar_grammar.specs.Loose as loose
use Rattle.cedar_grammar.specs.Loose.{ands, relations, mults, unaries, exprs, rec_inits}
use Rattle.cedar_grammar.specs.Converting.{each, sum, product, expr_tree, or_tree, ands_tree, and_tree, relations_tree, relation_tree, add_tree, mults_tree, mult_tree, unaries_tree, unary_tree, exprs_trees, rec_inits_trees, rec_init_tree, action, actions}
use Rattle.cedar_grammar.proofs.Basics.{bind_same, or_join, and_join, add_join}
use Rattle.cedar_grammar.proofs.Loops.{folded, chain_tree}

module _ (names : Names) where
  ands-folded : (x : Tree) (ys : List (Unit {0} × loose.And)) → ands_tree names x (ands (map (λ y. y.1) ys)) ≡ folded (and_tree names) or_join x ys
  unfolding ands_tree
  ands-folded x [] = refl
  ands-folded x (y ∷ ys) = bind_same (and_tree names y.1) (λ b. ands_tree names (disjunction x b) (ands (map (λ z. z.1) ys))) (λ b. folded (and_tree names) or_join (disjunction x b) ys) (λ b. ands-folded (disjunction x b) ys)

  pub or-chain : (y : loose.And × List (Unit {0} × loose.And)) → or_tree names (loose.or y.0 (ands (map (λ z. z.1) y.1))) ≡ chain_tree (and_tree names) or_join y
  unfolding or_tree
  or-chain y = bind_same (and_tree names y.0) (λ x. ands_tree names x (ands (map (λ z. z.1) y.1))) (λ x. folded (and_tree names) or_join x y.1) (λ x. ands-folded x y.1)

  relations-folded : (x : Tree) (ys : List (Unit {0} × loose.Relation)) → relations_tree names x (relations (map (λ y. y.1) ys)) ≡ folded (relation_tree names) and_join x ys
  unfolding relations_tree
  relations-folded x [] = refl
  relations-folded x (y ∷ ys) = bind_same (relation_tree names y.1) (λ b. relations_tree names (conjunction x b) (relations (map (λ z. z.1) ys))) (λ b. folded (relation_tree names) and_join (conjunction x b) ys) (λ b. relations-folded (conjunction x b) ys)

  pub and-chain : (y : loose.Relation × List (Unit {0} × loose.Relation)) → and_tree names (loose.and y.0 (relations (map (λ z. z.1) y.1))) ≡ chain_tree (relation_tree names) and_join y
  unfolding and_tree
  and-chain y = bind_same (relation_tree names y.0) (λ x. relations_tree names x (relations (map (λ z. z.1) y.1))) (λ x. folded (relation_tree names) and_join x y.1) (λ x. relations-folded x y.1)

  mults-folded : (x : Tree) (ys : List (loose.AddOp × loose.Mult)) → mults_tree names x (mults ys) ≡ folded (mult_tree names) add_join x ys
  unfolding mults_tree
  mults-folded x [] = refl
  mults-folded x (y ∷ ys) = bind_same (mult_tree names y.1) (λ b. mults_tree names (sum y.0 x b) (mults ys)) (λ b. folded (mult_tree names) add_join (sum y.0 x b) ys) (λ b. mults-folded (sum y.0 x b) ys)

  pub add-chain : (y : loose.Mult × List (loose.AddOp × loose.Mult)) → add_tree names (loose.add y.0 (mults y.1)) ≡ chain_tree (mult_tree names) add_join y
  unfolding add_tree
  add-chain y = bind_same (mult_tree names y.0) (λ x. mults_tree names x (mults y.1)) (λ x. folded (mult_tree names) add_join x y.1) (λ x. mults-folded x y.1)

  unaries-folded : (x : Tree) (ys : List (loose.MultOp × loose.Unary)) → unaries_tree names x (unaries ys) ≡ folded (unary_tree names) product x ys
  unfolding unaries_tree
  unaries-folded x [] = refl
  unaries-folded x (y ∷ ys) =
      bind_same (unary_tree names y.1) (λ b. product y.0 x b >>= λ z. unaries_tree names z (unaries ys)) (λ b. product y.0 x b >>= λ z. folded (unary_tree names) product z ys)
      (λ b. bind_same (product y.0 x b) (λ z. unaries_tree names z (unaries ys)) (λ z. folded (unary_tree names) product z ys) (λ z. unaries-folded z ys))

  pub mult-chain : (y : loose.Unary × List (loose.MultOp × loose.Unary)) → mult_tree names (loose.mult y.0 (unaries y.1)) ≡ chain_tree (unary_tree names) product y
  unfolding mult_tree
  mult-chain y = bind_same (unary_tree names y.0) (λ x. unaries_tree names x (unaries y.1)) (λ x. folded (unary_tree names) product x y.1) (λ x. unaries-folded x y.1)

  pub exprs-each : (es : List loose.Expr) → exprs_trees names (exprs es) ≡ each (expr_tree names) es
  unfolding exprs_trees
  exprs-each [] = refl
  exprs-each (e ∷ es) = ap (λ o. expr_tree names e >>= λ x. o >>= λ xs. Some (x ∷ xs)) (exprs-each es)

  pub rec_inits-each : (rs : List loose.RecInit) → rec_inits_trees names (rec_inits rs) ≡ each (rec_init_tree names) rs
  unfolding rec_inits_trees
  rec_inits-each [] = refl
  rec_inits-each (r ∷ rs) = ap (λ o. rec_init_tree names r >>= λ x. o >>= λ xs. Some (x ∷ xs)) (rec_inits-each rs)

pub actions-each : (es : List loose.Expr) → actions (exprs es) ≡ each action es
actions-each [] = refl
actions-each (e ∷ es) = ap (λ o. action e >>= λ x. o >>= λ xs. Some (x ∷ xs)) (actions-each es)
