-- Where each member is a literal, there is none among none alone.
use Rattle.std.proofs.Common.{◌∙◌, sym, ap}
use Rattle.cedar_values.specs.LiteralSets.{literals_among}
use Rattle.cedar_values.proofs.LiteralSets.{none_among}
use Rattle.cedar_values.proofs.values.literal_sets.LiteralSet.is_empty.Goals as goal

pub returns : goal.returns
returns c = (
  λ t. sym c.self.view_is ∙ ap literals_among (c.is_empty.ensures.0 t),
  λ e. c.is_empty.ensures.1 (none_among c.self.inside.set.now c.self.invariant (c.self.view_is ∙ e)),
)
