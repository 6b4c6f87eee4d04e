-- `*` is an operator that the builder applies; division and remainder write no tree.
use Rattle.std.proofs.Common.{Some, ap}
use Rattle.cedar_language.specs.Tree as tree
use Rattle.cedar_grammar.specs.Build.{binary}
use Rattle.cedar_conversion.specs.declared.applying.Joint.TheVariants as joint
use Rattle.cedar_conversion.specs.Building.{IsBuilt, IsRefused}
use Rattle.cedar_conversion.specs.Joints.{joined}
use Rattle.cedar_conversion.proofs.Converting.{same_as, faulty}
use Rattle.cedar_conversion.proofs.Made.{took, built_binary}
use Rattle.cedar_cst.specs.LeafView.{view_mult_op}
use Rattle.cedar_conversion.specs.Shows.{joint_shows}
use Rattle.cedar_faults.proofs.Telling.{tells_one}
use Rattle.cedar_conversion.proofs.Told.{quiet}
use Rattle.cedar_conversion.proofs.applying.multiplied.Goals as goal

pub returns-in-Times-clause-tree : goal.returns-in-Times-clause-tree
returns-in-Times-clause-tree g c x y hx hy =
    let o = g.B.ExprBuilder.operations in
    let m = g.B.ExprBuilder.meaning in
    let refusal = g.B.ExprBuilder.refusal in
    let a = m c.args.left in
    let b = m c.args.right in
    same_as refusal (IsBuilt o m) (IsRefused o) c.taken.result (Some (binary tree.Mul x y)) _ (ap (λ op. joined (joint.Product op) x y) c.in-Times.is)
    (took o m refusal c.taken.result _ (binary tree.Mul x y) (built_binary o tree.Mul x y a b hx hy) (c.taken.ensures.taken _ c.mul.ensures))

pub returns-in-Divide-clause-tree : goal.returns-in-Divide-clause-tree
returns-in-Divide-clause-tree g c x y hx hy = faulty g.B.ExprBuilder.refusal (IsRefused g.B.ExprBuilder.operations) c.fault.result _ c.fault.ensures.fault (ap (λ op. joined (joint.Product op) x y) c.in-Divide.is)

pub returns-in-Mod-clause-tree : goal.returns-in-Mod-clause-tree
returns-in-Mod-clause-tree g c x y hx hy = faulty g.B.ExprBuilder.refusal (IsRefused g.B.ExprBuilder.operations) c.fault-in-Mod.result _ c.fault-in-Mod.ensures.fault (ap (λ op. joined (joint.Product op) x y) c.in-Mod.is)

pub returns-in-Times-clause-shown : goal.returns-in-Times-clause-shown
returns-in-Times-clause-shown g c = quiet c.taken.result _ c.taken.ensures.shown

pub returns-in-Divide-clause-shown : goal.returns-in-Divide-clause-shown
returns-in-Divide-clause-shown g c =
    tells_one _ _ c.fault.result (joint_shows (joint.Product c.args.op)) c.fault.ensures.kind (ap view_mult_op c.in-Divide.is)

pub returns-in-Mod-clause-shown : goal.returns-in-Mod-clause-shown
returns-in-Mod-clause-shown g c =
    tells_one _ _ c.fault-in-Mod.result (joint_shows (joint.Product c.args.op)) c.fault-in-Mod.ensures.kind (ap view_mult_op c.in-Mod.is)
