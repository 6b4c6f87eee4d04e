-- What the operand shows, and what the type behind it shows.
use Rattle.std.proofs.Common.{inl, inr}
use Rattle.cedar_faults.specs.Telling.{Told}
use Rattle.cedar_faults.proofs.Telling.{told_more}
use Rattle.cedar_conversion.proofs.Told.{of_part_or}
use Rattle.cedar_conversion.proofs.relations.is_to_expr.Goals as goal

pub returns-clause-tree : goal.returns-clause-tree
returns-clause-tree g c v hv = c.is_type.ensures.tree v _ hv c.to_entity_type-named.ensures.path

pub returns-clause-shown : goal.returns-clause-shown
returns-clause-shown g c =
    told_more c.is_type.result _ _ (of_part_or c.to_entity_type-named.result (Told c.args.target) _ _ c.to_entity_type-named.ensures.shown (λ k s. inl s) (λ k s. inr s)) c.is_type.ensures.shown
