-- What may be within a type is transitive, and so is what an action is within.
use Rattle.cedar_schema_grammar.proofs.Conforming.{ancestors_conform, actions_conform}
use Rattle.cedar_schema_grammar.proofs.direct_parents_conform.Goals as goal

pub returns : goal.returns
returns c = record { ancestors = ancestors_conform c.parents_are_enough.ensures; actions = actions_conform }
