-- A name is used as a tree where it is a variable, and that is what the builder makes.
use Rattle.std.proofs.Common.{Some, sym}
use Rattle.cedar_language.specs.Tree as tree
use Rattle.cedar_literals.specs.Variables.{variable_of}
use Rattle.cedar_conversion.proofs.Converting.{then_some}
use Rattle.cedar_conversion.proofs.Made.{took_some, built_variable}
use Rattle.cedar_faults.proofs.Telling.{tells_more}
use Rattle.cedar_conversion.proofs.Told.{by_memory, quiet}
use Rattle.cedar_conversion.proofs.heads.variable.Goals as goal

pub returns-in_ok-builder-in-Some-clause-tree : goal.returns-in_ok-builder-in-Some-clause-tree
returns-in_ok-builder-in-Some-clause-tree g c =
    let o = g.B.ExprBuilder.operations in
    let m = g.B.ExprBuilder.meaning in
    let refusal = g.B.ExprBuilder.refusal in
    let v = variable_of c.in-Some.var in
    took_some o m refusal c.taken.result _ (tree.Var v) _ (then_some _ v (λ x. Some (tree.Var x)) (sym c.in-Some.ensures)) (built_variable o v) (c.taken.ensures.taken _ c.var.ensures)

pub returns-in_err-builder-in-Some-clause-shown : goal.returns-in_err-builder-in-Some-clause-shown
returns-in_err-builder-in-Some-clause-shown g c =
    by_memory c.from_residual.result c.in_err-builder-in-Some.field-0.0 _ c.from_residual.ensures c.in_err-builder-in-Some.ensures

pub returns-in_ok-builder-in-Some-clause-shown : goal.returns-in_ok-builder-in-Some-clause-shown
returns-in_ok-builder-in-Some-clause-shown g c = quiet c.taken.result _ c.taken.ensures.shown

pub returns-in-None-clause-shown : goal.returns-in-None-clause-shown
returns-in-None-clause-shown g c =
    tells_more _ _ _ (λ k s. (sym c.in-None.ensures, s)) c.no_variable.ensures.kind
