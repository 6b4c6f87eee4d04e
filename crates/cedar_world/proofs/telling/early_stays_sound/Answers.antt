-- A first answer is read as what is meant, and as what is settled once more is told.
use Rattle.cedar_world.proofs.EarlySound.{early_stays_sound as law}
use Rattle.cedar_world.proofs.telling.early_stays_sound.Goals as goal

pub returns : goal.returns
returns c =
    law c.question_answers_are_fair.ensures c.filled_is_meant.ensures c.question_answers_are_prompt.ensures c.telling_carries.ensures c.residuals_settle.ensures c.settling_is_one.ensures c.names_dont_matter.ensures
    c.without_unknowns.ensures c.all_told_is_known.ensures
