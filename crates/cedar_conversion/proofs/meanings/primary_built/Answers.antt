-- What the accesses made of the operand is what its head stands for.
use Rattle.cedar_grammar.specs.Converting.{primary_head}
use Rattle.cedar_cst.specs.View.{shown_primary}
use Rattle.std.proofs.Common.{inl, inr}
use Rattle.cedar_conversion.specs.Choices.{by_itself}
use Rattle.cedar_conversion.specs.Heads.{head_shows}
use Rattle.cedar_conversion.specs.Shows.{first, primary_shows}
use Rattle.cedar_faults.proofs.Telling.{told_more}
use Rattle.cedar_conversion.proofs.Told.{of_part_and}
use Rattle.cedar_conversion.proofs.Behind.{is_first, used_behind}
use Rattle.cedar_conversion.proofs.meanings.primary_built.Goals as goal

pub returns-clause-tree : goal.returns-clause-tree
returns-clause-tree g c = c.head_to_expr.ensures.tree (primary_head c.args.styles.now (shown_primary c.args.node.now)) c.primary_to_head-head.ensures.head

pub returns-clause-shown : goal.returns-clause-shown
returns-clause-shown g c =
    let p = shown_primary c.args.node.now in
    let head = c.primary_to_head-head in
    told_more c.head_to_expr.result _ _ (of_part_and head.result (head_shows by_itself head.result) (primary_shows c.args.styles.now p) _ head.ensures.shown (λ k s. inl s) (λ k s. inr (used_behind head.result (first p) by_itself k (is_first g.B.ExprBuilder.operations g.B.ExprBuilder.meaning c.args.styles.now g.B.ExprBuilder.refusal head.result p head.ensures.head) s))) c.head_to_expr.ensures.shown
