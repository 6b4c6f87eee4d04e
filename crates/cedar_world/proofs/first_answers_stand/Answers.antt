-- To stand as settled is fair, sharp and exact, so what the rules say of policies that stand so is a first answer.
use Rattle.cedar_world.proofs.First.{first_answers_stand as law}
use Rattle.cedar_world.proofs.first_answers_stand.Goals as goal

pub returns : goal.returns
returns c = law c.settling_is_one.ensures c.mentioned_is_meant.ensures
