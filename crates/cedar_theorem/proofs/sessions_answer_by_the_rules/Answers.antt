-- What a world holds is what the commands say, and what it answers is what that means.
use Rattle.cedar_theorem.proofs.Laws.{sessions_answer}
use Rattle.cedar_theorem.proofs.sessions_answer_by_the_rules.Goals as goal

pub returns : goal.returns
returns c = sessions_answer c.texts_are_one.ensures.bodies c.edits_at_uids.ensures c.known_questions_are_answered.ensures
