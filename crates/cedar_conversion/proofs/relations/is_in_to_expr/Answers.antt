-- What the operands show, and what the type between them shows.
use Rattle.cedar_faults.specs.Telling.{Told}
use Rattle.cedar_faults.proofs.Telling.{told_more}
use Rattle.cedar_conversion.proofs.Told.{of_second}
use Rattle.cedar_conversion.proofs.relations.is_in_to_expr.Goals as goal

pub returns-clause-tree : goal.returns-clause-tree
returns-clause-tree g c v u hv hu = c.is_type_in.ensures.tree v _ u hv c.to_entity_type-named.ensures.path hu

pub returns-clause-shown : goal.returns-clause-shown
returns-clause-shown g c =
    told_more c.is_type_in.result _ _ (of_second c.to_entity_type-named.result (Told c.args.target) (Told c.args.entity) _ c.to_entity_type-named.ensures.shown) c.is_type_in.ensures.shown
