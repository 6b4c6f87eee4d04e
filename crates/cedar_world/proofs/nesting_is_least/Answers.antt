-- What nests within the least nesting does within more, and no text is read in two ways.
use Rattle.cedar_world.proofs.Nesting.{nesting_is_least}
use Rattle.cedar_world.proofs.nesting_is_least.Goals as goal

pub returns : goal.returns
returns c = nesting_is_least
    c.at_most_one_meaning.ensures.tokens c.at_most_one_meaning.ensures.expressions c.at_most_one_meaning.ensures.policies
    c.more_nesting_keeps.ensures.expressions c.more_nesting_keeps.ensures.policies
