-- An entity is read by each rule's plainest case, and nothing is read within no nesting.
use Rattle.cedar_grammar.proofs.Leaves.{entities_nest_once, no_policies_nest_once}
use Rattle.cedar_grammar.proofs.leaves_nest_once.Goals as goal

pub returns : goal.returns
returns c = record { entities = entities_nest_once; no_policies = no_policies_nest_once }
