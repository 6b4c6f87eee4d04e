-- Each answer of an evaluation stays sound, errs with a kind to which its policy settles, and is exact where nothing is missing.
use Rattle.cedar_world.proofs.EarlyAnswers.{early_answers_stand as law, as_meant}
use Rattle.cedar_world.proofs.early_answers_stand.Goals as goal

pub returns : goal.returns
returns c = law c.settling_is_one.ensures c.early_stays_sound.ensures c.question_answers_are_prompt.ensures (as_meant c.mentioned_is_meant.ensures)
