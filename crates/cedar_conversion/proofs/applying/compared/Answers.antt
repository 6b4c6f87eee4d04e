-- A comparison is `<`, `<=`, `==` or `in`, or the negation of one of them; a single `=` writes no tree.
use Rattle.std.proofs.Common.{Some, ap}
use Rattle.cedar_language.specs.Tree as tree
use Rattle.cedar_grammar.specs.Build.{unary, binary}
use Rattle.cedar_conversion.specs.declared.applying.Joint.TheVariants as joint
use Rattle.cedar_conversion.specs.Building.{IsBuilt, IsRefused}
use Rattle.cedar_conversion.specs.Joints.{joined}
use Rattle.cedar_conversion.proofs.Converting.{same_as, faulty}
use Rattle.cedar_conversion.proofs.Made.{took, built_unary, built_binary}
use Rattle.cedar_cst.specs.LeafView.{view_rel_op}
use Rattle.cedar_conversion.specs.Shows.{joint_shows}
use Rattle.cedar_faults.proofs.Telling.{tells_one}
use Rattle.cedar_conversion.proofs.Told.{quiet}
use Rattle.cedar_conversion.proofs.applying.compared.Goals as goal

pub returns-in-Less-clause-tree : goal.returns-in-Less-clause-tree
returns-in-Less-clause-tree g c x y hx hy =
    let o = g.B.ExprBuilder.operations in
    let m = g.B.ExprBuilder.meaning in
    let refusal = g.B.ExprBuilder.refusal in
    let a = m c.args.left in
    let b = m c.args.right in
    same_as refusal (IsBuilt o m) (IsRefused o) c.taken.result (Some (binary tree.Less x y)) _ (ap (λ op. joined (joint.Relation op) x y) c.in-Less.is)
    (took o m refusal c.taken.result _ (binary tree.Less x y) (built_binary o tree.Less x y a b hx hy) (c.taken.ensures.taken _ c.less.ensures))

pub returns-in-LessEq-clause-tree : goal.returns-in-LessEq-clause-tree
returns-in-LessEq-clause-tree g c x y hx hy =
    let o = g.B.ExprBuilder.operations in
    let m = g.B.ExprBuilder.meaning in
    let refusal = g.B.ExprBuilder.refusal in
    let a = m c.args.left in
    let b = m c.args.right in
    same_as refusal (IsBuilt o m) (IsRefused o) c.taken-in-LessEq.result (Some (binary tree.LessEq x y)) _ (ap (λ op. joined (joint.Relation op) x y) c.in-LessEq.is)
    (took o m refusal c.taken-in-LessEq.result _ (binary tree.LessEq x y) (built_binary o tree.LessEq x y a b hx hy) (c.taken-in-LessEq.ensures.taken _ c.lesseq.ensures))

pub returns-in-GreaterEq-clause-tree : goal.returns-in-GreaterEq-clause-tree
returns-in-GreaterEq-clause-tree g c x y hx hy =
    let o = g.B.ExprBuilder.operations in
    let m = g.B.ExprBuilder.meaning in
    let refusal = g.B.ExprBuilder.refusal in
    let a = m c.args.left in
    let b = m c.args.right in
    same_as refusal (IsBuilt o m) (IsRefused o) c.taken-in-GreaterEq.result (Some (unary tree.Not (binary tree.Less x y))) _ (ap (λ op. joined (joint.Relation op) x y) c.in-GreaterEq.is)
    (took o m refusal c.taken-in-GreaterEq.result _ (unary tree.Not (binary tree.Less x y)) (built_unary o tree.Not (binary tree.Less x y) _ (built_binary o tree.Less x y a b hx hy)) (c.taken-in-GreaterEq.ensures.taken _ c.greatereq.ensures))

pub returns-in-Greater-clause-tree : goal.returns-in-Greater-clause-tree
returns-in-Greater-clause-tree g c x y hx hy =
    let o = g.B.ExprBuilder.operations in
    let m = g.B.ExprBuilder.meaning in
    let refusal = g.B.ExprBuilder.refusal in
    let a = m c.args.left in
    let b = m c.args.right in
    same_as refusal (IsBuilt o m) (IsRefused o) c.taken-in-Greater.result (Some (unary tree.Not (binary tree.LessEq x y))) _ (ap (λ op. joined (joint.Relation op) x y) c.in-Greater.is)
    (took o m refusal c.taken-in-Greater.result _ (unary tree.Not (binary tree.LessEq x y)) (built_unary o tree.Not (binary tree.LessEq x y) _ (built_binary o tree.LessEq x y a b hx hy)) (c.taken-in-Greater.ensures.taken _ c.greater.ensures))

pub returns-in-NotEq-clause-tree : goal.returns-in-NotEq-clause-tree
returns-in-NotEq-clause-tree g c x y hx hy =
    let o = g.B.ExprBuilder.operations in
    let m = g.B.ExprBuilder.meaning in
    let refusal = g.B.ExprBuilder.refusal in
    let a = m c.args.left in
    let b = m c.args.right in
    same_as refusal (IsBuilt o m) (IsRefused o) c.taken-in-NotEq.result (Some (unary tree.Not (binary tree.Equal x y))) _ (ap (λ op. joined (joint.Relation op) x y) c.in-NotEq.is)
    (took o m refusal c.taken-in-NotEq.result _ (unary tree.Not (binary tree.Equal x y)) (built_unary o tree.Not (binary tree.Equal x y) _ (built_binary o tree.Equal x y a b hx hy)) (c.taken-in-NotEq.ensures.taken _ c.noteq.ensures))

pub returns-in-Eq-clause-tree : goal.returns-in-Eq-clause-tree
returns-in-Eq-clause-tree g c x y hx hy =
    let o = g.B.ExprBuilder.operations in
    let m = g.B.ExprBuilder.meaning in
    let refusal = g.B.ExprBuilder.refusal in
    let a = m c.args.left in
    let b = m c.args.right in
    same_as refusal (IsBuilt o m) (IsRefused o) c.taken-in-Eq.result (Some (binary tree.Equal x y)) _ (ap (λ op. joined (joint.Relation op) x y) c.in-Eq.is)
    (took o m refusal c.taken-in-Eq.result _ (binary tree.Equal x y) (built_binary o tree.Equal x y a b hx hy) (c.taken-in-Eq.ensures.taken _ c.is_eq.ensures))

pub returns-in-In-clause-tree : goal.returns-in-In-clause-tree
returns-in-In-clause-tree g c x y hx hy =
    let o = g.B.ExprBuilder.operations in
    let m = g.B.ExprBuilder.meaning in
    let refusal = g.B.ExprBuilder.refusal in
    let a = m c.args.left in
    let b = m c.args.right in
    same_as refusal (IsBuilt o m) (IsRefused o) c.taken-in-In.result (Some (binary tree.In x y)) _ (ap (λ op. joined (joint.Relation op) x y) c.in-In.is)
    (took o m refusal c.taken-in-In.result _ (binary tree.In x y) (built_binary o tree.In x y a b hx hy) (c.taken-in-In.ensures.taken _ c.is_in.ensures))

pub returns-in-InvalidSingleEq-clause-tree : goal.returns-in-InvalidSingleEq-clause-tree
returns-in-InvalidSingleEq-clause-tree g c x y hx hy = faulty g.B.ExprBuilder.refusal (IsRefused g.B.ExprBuilder.operations) c.fault.result _ c.fault.ensures.fault (ap (λ op. joined (joint.Relation op) x y) c.in-InvalidSingleEq.is)

pub returns-in-Less-clause-shown : goal.returns-in-Less-clause-shown
returns-in-Less-clause-shown g c = quiet c.taken.result _ c.taken.ensures.shown

pub returns-in-LessEq-clause-shown : goal.returns-in-LessEq-clause-shown
returns-in-LessEq-clause-shown g c =
    quiet c.taken-in-LessEq.result _ c.taken-in-LessEq.ensures.shown

pub returns-in-GreaterEq-clause-shown : goal.returns-in-GreaterEq-clause-shown
returns-in-GreaterEq-clause-shown g c =
    quiet c.taken-in-GreaterEq.result _ c.taken-in-GreaterEq.ensures.shown

pub returns-in-Greater-clause-shown : goal.returns-in-Greater-clause-shown
returns-in-Greater-clause-shown g c =
    quiet c.taken-in-Greater.result _ c.taken-in-Greater.ensures.shown

pub returns-in-NotEq-clause-shown : goal.returns-in-NotEq-clause-shown
returns-in-NotEq-clause-shown g c =
    quiet c.taken-in-NotEq.result _ c.taken-in-NotEq.ensures.shown

pub returns-in-Eq-clause-shown : goal.returns-in-Eq-clause-shown
returns-in-Eq-clause-shown g c = quiet c.taken-in-Eq.result _ c.taken-in-Eq.ensures.shown

pub returns-in-In-clause-shown : goal.returns-in-In-clause-shown
returns-in-In-clause-shown g c = quiet c.taken-in-In.result _ c.taken-in-In.ensures.shown

pub returns-in-InvalidSingleEq-clause-shown : goal.returns-in-InvalidSingleEq-clause-shown
returns-in-InvalidSingleEq-clause-shown g c =
    tells_one _ _ c.fault.result (joint_shows (joint.Relation c.args.op)) c.fault.ensures.kind (ap view_rel_op c.in-InvalidSingleEq.is)
