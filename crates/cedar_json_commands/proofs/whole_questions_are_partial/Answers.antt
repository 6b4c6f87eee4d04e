-- Each part that stands is given.
use Rattle.cedar_json_commands.proofs.Whole.{whole_is_partial}
use Rattle.cedar_json_commands.proofs.whole_questions_are_partial.Goals as goal

pub returns : goal.returns
returns c = λ json question e. whole_is_partial json question e
