-- As a disjunction does: where one operand is no literal Boolean, the conjunction of both is left whole.
use Rattle.std.proofs.Common.{◌∙◌, ap, sym}
use Rattle.cedar_language.specs.Tree as tree
use Rattle.cedar_trees.specs.Bare.{bare}
use Rattle.cedar_trees.proofs.Bares.{bare-And}
use Rattle.cedar_trees.proofs.Folding.{conjunction_apart}
use Rattle.cedar_trees.proofs.kinds.and.Goals as goal

pub returns-in_ok-new-in-None-2 : goal.returns-in_ok-new-in-None-2
returns-in_ok-new-in-None-2 g c =
    bare-And g.row.T.Denot c.in_ok-new-in-None.field-0 c.in_ok-new-in-None-2.field-0
    ∙ ap (λ e. tree.And (bare e) (bare c.in_ok-new-in-None-2.field-0.value)) c.in_ok-new-in-None.ensures.ok
    ∙ ap (λ e. tree.And (bare c.args.left) (bare e)) c.in_ok-new-in-None-2.ensures.ok
    ∙ sym (conjunction_apart (bare c.args.left) (bare c.args.right) _ _ _ c.as_bool.ensures c.as_bool-2.ensures c.zip.ensures c.in-None.is)
