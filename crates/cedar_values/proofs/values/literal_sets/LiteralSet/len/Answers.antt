-- Each member is a literal.
use Rattle.std.proofs.Common.{◌∙◌, sym, ap, length}
use Rattle.cedar_values.proofs.LiteralSets.{as_many}
use Rattle.cedar_values.proofs.values.literal_sets.LiteralSet.len.Goals as goal

pub returns : goal.returns
returns c = c.len.ensures ∙ sym (as_many c.self.inside.set.now c.self.invariant) ∙ ap length c.self.view_is
