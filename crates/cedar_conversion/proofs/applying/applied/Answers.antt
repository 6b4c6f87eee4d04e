-- `||` and `&&` are what a lawful builder makes of them; the other joints by the functions of their operators.
use Rattle.std.proofs.Common.{Some, ap}
use Rattle.cedar_conversion.specs.Building.{IsBuilt, IsRefused}
use Rattle.cedar_conversion.specs.Joints.{joined}
use Rattle.cedar_conversion.proofs.Converting.{same_as, passed, memory}
use Rattle.cedar_conversion.proofs.Made.{took, built_or, built_and}
use Rattle.cedar_grammar.specs.Build.{conjunction, disjunction}
use Rattle.cedar_conversion.specs.Shows.{joint_shows}
use Rattle.cedar_conversion.proofs.Told.{quiet, by_memory, of_same}
use Rattle.cedar_conversion.proofs.applying.applied.Goals as goal

pub returns-in_err-builder-clause-tree : goal.returns-in_err-builder-clause-tree
returns-in_err-builder-clause-tree g c x y hx hy = passed g.B.ExprBuilder.refusal (IsBuilt g.B.ExprBuilder.operations g.B.ExprBuilder.meaning) (IsRefused g.B.ExprBuilder.operations) c.from_residual.result c.in_err-builder.field-0.0 _ c.from_residual.ensures (memory g.B.ExprBuilder.refusal (IsRefused g.B.ExprBuilder.operations) _ _ c.in_err-builder.ensures)

pub returns-in-Or-clause-tree : goal.returns-in-Or-clause-tree
returns-in-Or-clause-tree g c x y hx hy =
    let o = g.B.ExprBuilder.operations in
    let m = g.B.ExprBuilder.meaning in
    let refusal = g.B.ExprBuilder.refusal in
    let a = m c.args.left in
    let b = m c.args.right in
    same_as refusal (IsBuilt o m) (IsRefused o) c.taken.result (Some (disjunction x y)) _ (ap (λ j. joined j x y) c.in-Or.is)
    (took o m refusal c.taken.result _ (disjunction x y) (built_or o g.met.B.ExprBuilder.lawful x y a b hx hy) (c.taken.ensures.taken _ c.or.ensures))

pub returns-in-And-clause-tree : goal.returns-in-And-clause-tree
returns-in-And-clause-tree g c x y hx hy =
    let o = g.B.ExprBuilder.operations in
    let m = g.B.ExprBuilder.meaning in
    let refusal = g.B.ExprBuilder.refusal in
    let a = m c.args.left in
    let b = m c.args.right in
    same_as refusal (IsBuilt o m) (IsRefused o) c.taken-in-And.result (Some (conjunction x y)) _ (ap (λ j. joined j x y) c.in-And.is)
    (took o m refusal c.taken-in-And.result _ (conjunction x y) (built_and o g.met.B.ExprBuilder.lawful x y a b hx hy) (c.taken-in-And.ensures.taken _ c.and.ensures))

pub returns-in-Relation-clause-tree : goal.returns-in-Relation-clause-tree
returns-in-Relation-clause-tree g c x y hx hy =
    same_as g.B.ExprBuilder.refusal (IsBuilt g.B.ExprBuilder.operations g.B.ExprBuilder.meaning) (IsRefused g.B.ExprBuilder.operations) c.compared.result _ _ (ap (λ j. joined j x y) c.in-Relation.is) (c.compared.ensures.tree x y hx hy)

pub returns-in-Sum-clause-tree : goal.returns-in-Sum-clause-tree
returns-in-Sum-clause-tree g c x y hx hy =
    same_as g.B.ExprBuilder.refusal (IsBuilt g.B.ExprBuilder.operations g.B.ExprBuilder.meaning) (IsRefused g.B.ExprBuilder.operations) c.added.result _ _ (ap (λ j. joined j x y) c.in-Sum.is) (c.added.ensures.tree x y hx hy)

pub returns-in-Product-clause-tree : goal.returns-in-Product-clause-tree
returns-in-Product-clause-tree g c x y hx hy =
    same_as g.B.ExprBuilder.refusal (IsBuilt g.B.ExprBuilder.operations g.B.ExprBuilder.meaning) (IsRefused g.B.ExprBuilder.operations) c.multiplied.result _ _ (ap (λ j. joined j x y) c.in-Product.is) (c.multiplied.ensures.tree x y hx hy)

pub returns-in_err-builder-clause-shown : goal.returns-in_err-builder-clause-shown
returns-in_err-builder-clause-shown g c =
    by_memory c.from_residual.result c.in_err-builder.field-0.0 _ c.from_residual.ensures c.in_err-builder.ensures

pub returns-in-Or-clause-shown : goal.returns-in-Or-clause-shown
returns-in-Or-clause-shown g c = quiet c.taken.result _ c.taken.ensures.shown

pub returns-in-And-clause-shown : goal.returns-in-And-clause-shown
returns-in-And-clause-shown g c = quiet c.taken-in-And.result _ c.taken-in-And.ensures.shown

pub returns-in-Relation-clause-shown : goal.returns-in-Relation-clause-shown
returns-in-Relation-clause-shown g c =
    of_same c.compared.result joint_shows _ _ c.in-Relation.is c.compared.ensures.shown

pub returns-in-Sum-clause-shown : goal.returns-in-Sum-clause-shown
returns-in-Sum-clause-shown g c = quiet c.added.result _ c.added.ensures.shown

pub returns-in-Product-clause-shown : goal.returns-in-Product-clause-shown
returns-in-Product-clause-shown g c =
    of_same c.multiplied.result joint_shows _ _ c.in-Product.is c.multiplied.ensures.shown
