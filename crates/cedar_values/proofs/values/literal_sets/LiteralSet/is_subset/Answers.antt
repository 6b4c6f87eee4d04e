-- A set of literals is a subset as its literals are.
use Rattle.cedar_values.proofs.LiteralSets.{subset_among}
use Rattle.cedar_values.proofs.values.literal_sets.LiteralSet.is_subset.Goals as goal

pub returns : goal.returns
returns c =
    let same = subset_among c.self.inside.set.now c.other.inside.set.now c.self.invariant in
    rw (← c.self.view_is, ← c.other.view_is) (λ t. same.0 (c.is_subset.ensures.members.0 t), λ f. c.is_subset.ensures.members.1 (same.1 f))
