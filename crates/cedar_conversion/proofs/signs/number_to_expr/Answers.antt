-- The literal shows all that its further signs show.
use Rattle.cedar_faults.proofs.Telling.{told_each, told_more}
use Rattle.cedar_conversion.proofs.signs.number_to_expr.Goals as goal

pub returns-clause-tree : goal.returns-clause-tree
returns-clause-tree g c = c.signed.ensures.tree _ c.negative-item.ensures.tree

pub returns-clause-shown : goal.returns-clause-shown
returns-clause-shown g c =
    told_more c.signed.result _ _ (told_each c.negative-item.result _ c.negative-item.ensures.shown) c.signed.ensures.shown
