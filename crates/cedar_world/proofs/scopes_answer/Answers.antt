-- To stand as the scope says is to stand as what is settled says, so the law of first answers holds.
use Rattle.cedar_world.proofs.Plain.{scopes_answer as law}
use Rattle.cedar_world.proofs.scopes_answer.Goals as goal

pub returns : goal.returns
returns c = law c.first_answers_stand.ensures
