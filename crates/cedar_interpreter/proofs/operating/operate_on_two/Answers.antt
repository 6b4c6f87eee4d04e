-- Of two values what the operator gives, and else what is left of it, by what writes both.
use Rattle.std.proofs.Common.{◌∙◌, [], ◌∷◌, ap, sym, subst}
use Rattle.std.specs.List.{list_any}
use Rattle.either.specs.declared.Either.TheVariants.{Left}
use Rattle.cedar_literals.specs.Operators.{binary_operator_of}
use Rattle.cedar_trees.specs.Bare.{bare}
use Rattle.cedar_restricted.specs.PartialValues.{partial_of, PartExpresses}
use Rattle.cedar_restricted.specs.Splitting.{is_residual}
use Rattle.cedar_interpreter.proofs.Operated.{two_values, two_wait, itself_left}
use Rattle.cedar_interpreter.proofs.operating.operate_on_two.Goals as goal

pub returns-in_ok-wait_for_two-in-Residual : goal.returns-in_ok-wait_for_two-in-Residual
returns-in_ok-wait_for_two-in-Residual g c =
    λ facts has holds.
    let p = partial_of c.args.left in
    let q = partial_of c.args.right in
    let is = ap partial_of c.in-Residual.is in
    two_wait facts holds (binary_operator_of c.args.op) p q (c.gathered_splits.ensures facts) (bare c.in-Residual.left) (bare c.in_ok-right-in-Residual.right)
    (itself_left p (bare c.in-Residual.left) is) c.in_ok-right-in-Residual.ensures (ap (λ x. list_any is_residual (x ∷ q ∷ [])) is)
    ∙ c.in_ok-wait_for_two-in-Residual.ensures facts holds

pub returns-in_ok-wait_for_two-in-Residual-right : goal.returns-in_ok-wait_for_two-in-Residual-right
returns-in_ok-wait_for_two-in-Residual-right g c =
    λ facts has holds.
    let p = partial_of c.args.left in
    let q = partial_of c.args.right in
    let is = ap partial_of c.in-Value.is in
    let also = ap partial_of c.in-Residual-right.is in
    two_wait facts holds (binary_operator_of c.args.op) p q (c.gathered_splits.ensures facts) (bare c.in_ok-left-in-Residual-right.left) (bare c.in-Residual-right.right)
    (subst (λ x. PartExpresses x (bare c.in_ok-left-in-Residual-right.left)) (sym is) c.in_ok-left-in-Residual-right.ensures) (itself_left q (bare c.in-Residual-right.right) also)
    (ap (λ x. list_any is_residual (x ∷ q ∷ [])) is ∙ ap (λ x. list_any is_residual (Left c.in-Value.left ∷ x ∷ [])) also)
    ∙ c.in_ok-wait_for_two-in-Residual-right.ensures facts holds

pub returns-in-Value-right : goal.returns-in-Value-right
returns-in-Value-right g c =
    λ facts has holds.
    two_values facts holds (binary_operator_of c.args.op) (partial_of c.args.left) (partial_of c.args.right) c.in-Value.left c.in-Value-right.right c.apply_to_two.result
    (ap partial_of c.in-Value.is) (ap partial_of c.in-Value-right.is) (c.apply_to_two.ensures facts has)
