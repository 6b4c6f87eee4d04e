-- Each by the law of a list that edges lead from.
use Rattle.cedar_schema_grammar.proofs.Reaching.{groups_are_transitive, parents_are_transitive, cycles_are_found}
use Rattle.cedar_schema_grammar.proofs.hierarchies_are_transitive.Goals as goal

pub returns : goal.returns
returns c = record { groups = groups_are_transitive; parents = parents_are_transitive; cycles = cycles_are_found }
