-- The texts of the rows are read by computing, and in no second way, so the case of each step is the only one.
use Rattle.cedar_world.proofs.StepRows as rows
use Rattle.cedar_world.proofs.step_rows.Goals as goal

pub returns : goal.returns
returns c functions =
    let converts = c.converting_is_the_grammar.ensures in
    let one = c.at_most_one_meaning.ensures in
    rows.step_rows c.reading_gives_the_tokens.ensures converts.expressions converts.policies one.tokens one.expressions one.policies functions
