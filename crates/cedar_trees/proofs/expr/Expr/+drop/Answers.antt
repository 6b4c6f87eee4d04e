-- The arguments behind the first weigh no more than all of them, and these weigh less than the call.
use Rattle.std.proofs.Common.{◌≡◌, ◌≤◌, ◌<◌, ℕ, List, [], ◌∷◌, arith, rules}
use Rattle.std.specs.List.{remove}
use contract.BorrowLft.{⊑_meet, ⊑_static}
use denote.Param.Weighed.{most}
use Rattle.cedar_trees.specs.declared.expr.Expr.{size-Expr}
use Rattle.cedar_trees.specs.declared.expr.ExprKind.{the_lemmas}
use Rattle.cedar_trees.proofs.expr.Expr.+drop.Goals as goal

fewer : {X : Type 0} (μ : X → ℕ) (xs ys : List X) → ys ≡ remove xs 0 → most μ ys ≤ most μ xs
fewer μ [] ys h = rw h (omega arith)
fewer μ (x ∷ xs) ys h = rw h (omega arith)

pub drop-items-requires-in-Ok : goal.drop-items-requires-in-Ok
drop-items-requires-in-Ok g t c κs =
    let all : most (size-Expr g.row.T.Denot) c.in-Ok.items.items < size-Expr g.row.T.Denot c.loop-literal.self = search (rules, the_lemmas) in
    let rest : most (size-Expr g.row.T.Denot) c.remove-self.new.self.items ≤ most (size-Expr g.row.T.Denot) c.in-Ok.items.items = fewer (size-Expr g.row.T.Denot) c.in-Ok.items.items c.remove-self.new.self.items c.remove-self.ensures.items in
    let low : most (size-Expr g.row.T.Denot) c.remove-self.new.self.items < t = omega arith in
    λ h. (((low, tt), tt), (search (⊑_meet, ⊑_static, h) depth 60 fits 100000, search rules))
