-- The bare tree of a record is what its copy has.
use Rattle.std.proofs.Common.{◌≡◌, ◌∙◌, IfOk, ap, subst, sym}
use Rattle.cedar_language.specs.Tree.{Tree}
use Rattle.cedar_trees.specs.Bare.{bare_kind}
use Rattle.cedar_trees.proofs.Bares.{bare-Record}
use Rattle.cedar_trees.proofs.expr.ExprKind.clone.Goals as goal

pub returns-in-Record : goal.returns-in-Record
returns-in-Record g c =
    let same = ap bare_kind c.in-Record.is ∙ bare-Record g.row.T.Denot c.in-Record.entries in
    subst (λ (t : Tree). IfOk c.copied_record.result (λ copy. bare_kind copy ≡ t)) (sym same) c.copied_record.ensures
