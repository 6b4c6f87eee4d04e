-- The values of a restricted record are restricted, and they and its keys are those of its tree.
use Rattle.std.proofs.Common.{◌∙◌, ap, BTreeMap, Global}
use Rattle.std.specs.Prelude.{Some}
use Rattle.std.specs.declared.rc.RcStr.{RcStr}
use Rattle.cedar_trees.specs.declared.expr.Expr.{Expr}
use Rattle.cedar_restricted.proofs.Reading.{record_is, record_restricted}
use Rattle.cedar_restricted.proofs.borrowed.BorrowedRestrictedExpr.as_record_pairs.Goals as goal

pub of-requires : goal.of-requires
of-requires c = record_restricted c.args.self.now.expr.now c.in-Record.entries c.deref.result.now.entries c.in-Record.is (ap (λ (m : BTreeMap (RcStr Global) (Expr (Unit {0}))). m.entries) c.deref.ensures) c.args.self.now.restricted

pub returns-in-Record : goal.returns-in-Record
returns-in-Record c = ap Some c.of.ensures ∙ record_is c.args.self.now.expr.now c.in-Record.entries c.deref.result.now.entries c.in-Record.is (ap (λ (m : BTreeMap (RcStr Global) (Expr (Unit {0}))). m.entries) c.deref.ensures)
