-- What the grammar lets a text call stands in its table of names, and each name of that table leads to a function.
use Rattle.cedar_world.proofs.Named as named
use Rattle.cedar_world.proofs.calls_are_found.Goals as goal

pub returns : goal.returns
returns c by = named.calls_are_found c.texts_call_the_table.ensures.expressions c.texts_call_the_table.ensures.conditions by
