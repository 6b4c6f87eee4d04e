-- A literal is among the members as it is among the literals.
use Rattle.cedar_literals.specs.Literals.{literal_of}
use Rattle.cedar_values.proofs.LiteralSets.{among, from_among}
use Rattle.cedar_values.proofs.values.literal_sets.LiteralSet.contains.Goals as goal

pub returns : goal.returns
returns c =
    let set = c.self.inside.set.now in
    let l = literal_of c.args.literal.now in
    rw (← c.self.view_is) (λ t. among set l (c.contains_literal.ensures.0 t), λ m. c.contains_literal.ensures.1 (from_among set l m))
