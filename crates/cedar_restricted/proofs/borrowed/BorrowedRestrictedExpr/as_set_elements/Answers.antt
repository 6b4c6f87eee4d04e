-- The elements that are lent are the parts of the tree of the set.
use Rattle.std.proofs.Common.{◌∙◌, ap, Vec, Global}
use Rattle.std.specs.Prelude.{Some}
use Rattle.cedar_trees.specs.declared.expr.Expr.{Expr}
use Rattle.cedar_restricted.proofs.Reading.{set_is}
use Rattle.cedar_restricted.proofs.borrowed.BorrowedRestrictedExpr.as_set_elements.Goals as goal

pub returns-in-Set : goal.returns-in-Set
returns-in-Set c = ap Some c.of.ensures ∙ set_is c.args.self.now.expr.now c.in-Set.items c.deref-in-Set.result.now c.in-Set.is (c.deref-in-Set.ensures.value ∙ ap (λ (v : Vec (Expr (Unit {0})) Global). v.items) c.deref.ensures)
