-- Copies of errors are these errors.
use Rattle.std.proofs.Common.{◌∷◌, ◌∙◌}
use Rattle.cedar_parser.proofs.errors.ParseErrors.clone.Goals as goal

pub returns : goal.returns
returns c = λ i. c.in_ok-clone.ensures.cases i ∷ (c.in_ok-from_clones.ensures.items_if_clones_equal (λ x y e. e) ∙ c.deref.ensures.value) i
