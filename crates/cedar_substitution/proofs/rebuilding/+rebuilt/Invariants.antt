use Rattle.std.proofs.Common.{◌≡◌, ◌≤◌, ◌+◌, ◌*◌, ◌++◌, drop, map, All}
use Rattle.std.specs.Prelude.{Ok, true}
use Rattle.std.specs.Option.{is_some}
use Rattle.std.specs.Rc.{rc_str_bytes}
use Rattle.std.specs.Vec.{vec_len}
use Rattle.cedar_grammar.specs.Build.{trees, keys}
use Rattle.cedar_trees.specs.Bare.{bare, bare_entries}
use Rattle.cedar_trees.specs.declared.expr.Expr.{size-Expr}
use Rattle.cedar_builders.specs.Operations.{◌>>=◌, made, made_all}
use Rattle.cedar_substitution.specs.Chains.{first_of, with_built, chained, chain_of}
use Rattle.cedar_substitution.specs.Rising.{RecordsRiseWith, AllRiseWith, RestsRiseWith}
use Rattle.cedar_substitution.proofs.rebuilding.+rebuilt.Given as goal

abbrev pub invariant-rebuilt-loop-first : goal.invariant-rebuilt-loop-first
invariant-rebuilt-loop-first g l =
    let o = g.B.ExprBuilder.operations in
    let u = with_built o (g.U.Replacement.replaced l.unknowns) in
    (size-Expr g.row.T.Denot l.current ≤ size-Expr g.row.T.Denot l.expr) ×
    (All (λ x. (size-Expr g.row.T.Denot x.now ≤ size-Expr g.row.T.Denot l.expr) × (is_some (first_of (bare x.now)) ≡ true)) l.chain.items) ×
    (chained o u (chain_of l.chain.items) (made o u (bare l.current)) ≡ made o u (bare l.expr)) ×
    (RecordsRiseWith (g.U.Replacement.replaced l.unknowns) (bare l.current) → RestsRiseWith (g.U.Replacement.replaced l.unknowns) (chain_of l.chain.items) → RecordsRiseWith (g.U.Replacement.replaced l.unknowns) (bare l.expr))

abbrev pub invariant-rebuilt-loop-node : goal.invariant-rebuilt-loop-node
invariant-rebuilt-loop-node g l =
    let o = g.B.ExprBuilder.operations in
    let u = with_built o (g.U.Replacement.replaced l.unknowns) in
    (All (λ x. (size-Expr g.row.T.Denot x.now ≤ size-Expr g.row.T.Denot l.expr) × (is_some (first_of (bare x.now)) ≡ true)) l.chain.items) ×
    (chained o u (chain_of l.chain.items) (Ok (g.B.ExprBuilder.meaning l.built)) ≡ made o u (bare l.expr)) ×
    (RestsRiseWith (g.U.Replacement.replaced l.unknowns) (chain_of l.chain.items) → RecordsRiseWith (g.U.Replacement.replaced l.unknowns) (bare l.expr))

abbrev pub invariant-rebuilt_items-loop-item : goal.invariant-rebuilt_items-loop-item
invariant-rebuilt_items-loop-item g l =
    let o = g.B.ExprBuilder.operations in
    let u = with_built o (g.U.Replacement.replaced l.unknowns) in
    (made_all o u (trees (map bare l.items)) ≡ (made_all o u (trees (map bare (drop l.item-index l.items))) >>= λ ys. Ok (map g.B.ExprBuilder.meaning l.built.items ++ ys))) ×
    (AllRiseWith (g.U.Replacement.replaced l.unknowns) (trees (map bare (drop l.item-index l.items))) → AllRiseWith (g.U.Replacement.replaced l.unknowns) (trees (map bare l.items)))

abbrev pub invariant-rebuilt_entries-loop-key : goal.invariant-rebuilt_entries-loop-key
invariant-rebuilt_entries-loop-key g l =
    let o = g.B.ExprBuilder.operations in
    let u = with_built o (g.U.Replacement.replaced l.unknowns) in
    (goal.iterator-rebuilt_entries-loop-key g).can_next l.key-iterator ×
    (goal.iterator-rebuilt_entries-loop-key g).is_finite l.key-iterator ×
    (made_all o u (trees (map (λ e. e.1) (bare_entries l.entries.entries)))
    ≡ (made_all o u (trees (map (λ e. e.1) (bare_entries l.key-iterator))) >>= λ ys. Ok (map (λ p. g.B.ExprBuilder.meaning p.1) l.built.items ++ ys))) ×
    (keys (bare_entries l.entries.entries) ≡ map (λ p. rc_str_bytes p.0) l.built.items ++ keys (bare_entries l.key-iterator)) ×
    (AllRiseWith (g.U.Replacement.replaced l.unknowns) (trees (map (λ e. e.1) (bare_entries l.key-iterator))) → AllRiseWith (g.U.Replacement.replaced l.unknowns) (trees (map (λ e. e.1) (bare_entries l.entries.entries))))

abbrev pub decreases-rebuilt-loop-node : goal.decreases-rebuilt-loop-node
decreases-rebuilt-loop-node g l = vec_len l.chain

abbrev pub decreases-rebuilt : goal.decreases-rebuilt
decreases-rebuilt g l = 3 * size-Expr g.row.T.Denot l.expr.now + 1

abbrev pub decreases-rebuilt_end : goal.decreases-rebuilt_end
decreases-rebuilt_end g l = 3 * size-Expr g.row.T.Denot l.expr.now

abbrev pub decreases-refilled : goal.decreases-refilled
decreases-refilled g l = 3 * size-Expr g.row.T.Denot l.expr.now

abbrev pub decreases-rebuilt_items : goal.decreases-rebuilt_items
decreases-rebuilt_items g l = 3 * goal.size-rebuilt_items g l + 2

abbrev pub decreases-rebuilt_entries : goal.decreases-rebuilt_entries
decreases-rebuilt_entries g l = 3 * goal.size-rebuilt_entries g l + 2
