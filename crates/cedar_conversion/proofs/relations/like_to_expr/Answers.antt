-- What the operand shows, and what the pattern behind it shows.
use Rattle.std.proofs.Common.{inl, inr}
use Rattle.cedar_faults.specs.Telling.{Told}
use Rattle.cedar_faults.proofs.Telling.{told_more}
use Rattle.cedar_conversion.proofs.Told.{of_part_or}
use Rattle.cedar_conversion.proofs.relations.like_to_expr.Goals as goal

pub returns-clause-tree : goal.returns-clause-tree
returns-clause-tree g c v hv = c.like.ensures.tree v _ hv c.to_like_pattern-pattern.ensures.pattern

pub returns-clause-shown : goal.returns-clause-shown
returns-clause-shown g c =
    told_more c.like.result _ _ (of_part_or c.to_like_pattern-pattern.result (Told c.args.target) _ _ c.to_like_pattern-pattern.ensures.shown (λ k s. inl s) (λ k s. inr s)) c.like.ensures.shown
