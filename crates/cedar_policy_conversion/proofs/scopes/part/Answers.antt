-- What stands at a place among the views is the view of what stands there.
use Rattle.std.proofs.Common.{map, ap, ◌∙◌}
use Rattle.std.specs.Prelude.{slice_get}
use Rattle.cedar_cst.specs.View.{shown_variable_def}
use Rattle.cedar_policy_conversion.proofs.Parts.{got}
use Rattle.cedar_policy_conversion.proofs.scopes.part.Goals as goal

pub returns : goal.returns
returns c =
    got shown_variable_def c.deref.result.now c.args.index c.get.result c.get.ensures.lookup
    ∙ ap (λ xs. slice_get (map shown_variable_def xs) c.args.index) c.deref.ensures.value
