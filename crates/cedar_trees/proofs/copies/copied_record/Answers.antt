-- The copied handle holds the same entries, so the same bare tree.
use Rattle.std.proofs.Common.{◌∙◌, ap, BTreeMap, Global}
use Rattle.std.specs.declared.rc.RcStr.{RcStr}
use Rattle.cedar_trees.specs.Bare.{bare_entries, record_tree}
use Rattle.cedar_trees.specs.declared.expr.Expr.{Expr}
use Rattle.cedar_trees.proofs.Bares.{bare-Record}
use Rattle.cedar_trees.proofs.copies.copied_record.Goals as goal

pub returns : goal.returns
returns g c =
    bare-Record g.row.T.Denot c.in_ok-clone.field-0
    ∙ ap (λ (m : BTreeMap (RcStr Global) (Expr g.row.T.Denot)). record_tree (bare_entries m.entries)) c.in_ok-clone.ensures.cases
