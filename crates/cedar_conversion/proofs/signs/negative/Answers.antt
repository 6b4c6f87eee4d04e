-- A number and the minus before it are one literal, which the builder makes as it is.
use Rattle.std.proofs.Common.{sym, refl}
use Rattle.cedar_language.specs.Tree as tree
use Rattle.cedar_literals.specs.Literals.{literal_of}
use Rattle.cedar_conversion.proofs.Made.{took_some, built_literal}
use Rattle.cedar_conversion.specs.Shows.{minus_shows}
use Rattle.cedar_faults.proofs.Telling.{tells_one}
use Rattle.cedar_conversion.proofs.Told.{by_memory, quiet}
use Rattle.cedar_conversion.proofs.Nodes.{too_large}
use Rattle.cedar_conversion.proofs.signs.negative.Goals as goal

pub returns-in_ok-builder-in-Some-clause-tree : goal.returns-in_ok-builder-in-Some-clause-tree
returns-in_ok-builder-in-Some-clause-tree g c =
    let o = g.B.ExprBuilder.operations in
    let m = g.B.ExprBuilder.meaning in
    let refusal = g.B.ExprBuilder.refusal in
    took_some o m refusal c.taken.result _ (tree.Lit (literal_of c.in-Some.literal)) _ (sym c.in-Some.ensures) (built_literal o (literal_of c.in-Some.literal)) (c.taken.ensures.taken _ c.val.ensures)

pub returns-in_err-builder-in-Some-clause-shown : goal.returns-in_err-builder-in-Some-clause-shown
returns-in_err-builder-in-Some-clause-shown g c =
    by_memory c.from_residual.result c.in_err-builder-in-Some.field-0.0 _ c.from_residual.ensures c.in_err-builder-in-Some.ensures

pub returns-in_ok-builder-in-Some-clause-shown : goal.returns-in_ok-builder-in-Some-clause-shown
returns-in_ok-builder-in-Some-clause-shown g c = quiet c.taken.result _ c.taken.ensures.shown

pub returns-in-None-clause-shown : goal.returns-in-None-clause-shown
returns-in-None-clause-shown g c =
    tells_one _ _ c.fault.result (minus_shows c.args.number) c.fault.ensures.kind (refl, too_large c.args.number c.in-None.ensures)
