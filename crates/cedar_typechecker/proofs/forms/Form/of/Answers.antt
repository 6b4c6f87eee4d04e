use Rattle.std.proofs.Common.{◌∙◌, ap, sym, BTreeMap, Global}
use Rattle.std.specs.declared.rc.RcStr.{RcStr}
use Rattle.cedar_trees.specs.Bare.{bare_kind, bare_entries, record_tree}
use Rattle.cedar_trees.specs.declared.expr.Expr.{Expr}
use Rattle.cedar_trees.specs.declared.expr.ExprKind.{ExprKind}
use Rattle.cedar_trees.proofs.Bares.{bare_is, bare-Record}
use Rattle.cedar_typechecker.proofs.forms.Form.of.Goals as goal

pub returns-in-Record : goal.returns-in-Record
returns-in-Record c =
    bare_is (Unit {0}) c.args.expr.now ∙ ap (λ (k : ExprKind (Unit {0})). bare_kind k) c.in-Record.is ∙ bare-Record (Unit {0}) c.in-Record.entries
    ∙ ap (λ (m : BTreeMap (RcStr Global) (Expr (Unit {0}))). record_tree (bare_entries m.entries)) (sym c.deref-in-Record.ensures)
