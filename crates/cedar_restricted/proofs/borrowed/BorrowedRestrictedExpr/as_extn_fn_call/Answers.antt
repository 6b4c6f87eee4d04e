-- The arguments that are lent are the parts of the tree of the call.
use Rattle.std.proofs.Common.{◌∙◌, ap, Vec, Global}
use Rattle.std.specs.Prelude.{Some}
use Rattle.cedar_trees.specs.declared.expr.Expr.{Expr}
use Rattle.cedar_restricted.proofs.Reading.{call_is}
use Rattle.cedar_restricted.proofs.borrowed.BorrowedRestrictedExpr.as_extn_fn_call.Goals as goal

pub returns-in-ExtensionFunctionApp : goal.returns-in-ExtensionFunctionApp
returns-in-ExtensionFunctionApp c = ap (λ ts. Some (c.in-ExtensionFunctionApp.fn_name, ts)) c.of.ensures ∙ call_is c.args.self.now.expr.now c.in-ExtensionFunctionApp.fn_name c.in-ExtensionFunctionApp.args c.deref-in-ExtensionFunctionApp.result.now c.in-ExtensionFunctionApp.is (c.deref-in-ExtensionFunctionApp.ensures.value ∙ ap (λ (v : Vec (Expr (Unit {0})) Global). v.items) c.deref.ensures)
