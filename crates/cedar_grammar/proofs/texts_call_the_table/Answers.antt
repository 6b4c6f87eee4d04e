-- By the rules of the grammar, each of which keeps what its parts call.
use Rattle.cedar_grammar.proofs.Calls.{exprs_call_the_table, conditions_call_the_table}
use Rattle.cedar_grammar.proofs.texts_call_the_table.Goals as goal

pub returns : goal.returns
returns c = record { expressions = exprs_call_the_table; conditions = conditions_call_the_table }
