-- `+` and `-` are operators that the builder applies to both operands.
use Rattle.std.proofs.Common.{Some, ap}
use Rattle.cedar_language.specs.Tree as tree
use Rattle.cedar_grammar.specs.Build.{binary}
use Rattle.cedar_conversion.specs.declared.applying.Joint.TheVariants as joint
use Rattle.cedar_conversion.specs.Building.{IsBuilt, IsRefused}
use Rattle.cedar_conversion.specs.Joints.{joined}
use Rattle.cedar_conversion.proofs.Converting.{same_as}
use Rattle.cedar_conversion.proofs.Made.{took, built_binary}
use Rattle.cedar_conversion.proofs.applying.added.Goals as goal

pub returns-in-Plus-clause-tree : goal.returns-in-Plus-clause-tree
returns-in-Plus-clause-tree g c x y hx hy =
    let o = g.B.ExprBuilder.operations in
    let m = g.B.ExprBuilder.meaning in
    let refusal = g.B.ExprBuilder.refusal in
    let a = m c.args.left in
    let b = m c.args.right in
    same_as refusal (IsBuilt o m) (IsRefused o) c.taken.result (Some (binary tree.Add x y)) _ (ap (λ op. joined (joint.Sum op) x y) c.in-Plus.is)
    (took o m refusal c.taken.result _ (binary tree.Add x y) (built_binary o tree.Add x y a b hx hy) (c.taken.ensures.taken _ c.add.ensures))

pub returns-in-Minus-clause-tree : goal.returns-in-Minus-clause-tree
returns-in-Minus-clause-tree g c x y hx hy =
    let o = g.B.ExprBuilder.operations in
    let m = g.B.ExprBuilder.meaning in
    let refusal = g.B.ExprBuilder.refusal in
    let a = m c.args.left in
    let b = m c.args.right in
    same_as refusal (IsBuilt o m) (IsRefused o) c.taken-in-Minus.result (Some (binary tree.Sub x y)) _ (ap (λ op. joined (joint.Sum op) x y) c.in-Minus.is)
    (took o m refusal c.taken-in-Minus.result _ (binary tree.Sub x y) (built_binary o tree.Sub x y a b hx hy) (c.taken-in-Minus.ensures.taken _ c.sub.ensures))
