-- Sets of literals share members as they share literals.
use Rattle.cedar_values.proofs.LiteralSets.{disjoint_among}
use Rattle.cedar_values.proofs.values.literal_sets.LiteralSet.is_disjoint.Goals as goal

pub returns : goal.returns
returns c =
    let same = disjoint_among c.self.inside.set.now c.other.inside.set.now c.self.invariant in
    rw (← c.self.view_is, ← c.other.view_is) (λ t. same.0 (c.is_disjoint.ensures.members.0 t), λ f. c.is_disjoint.ensures.members.1 (same.1 f))
