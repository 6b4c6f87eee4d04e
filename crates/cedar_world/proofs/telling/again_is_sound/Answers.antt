-- What was left means without slots what its condition means, and settles where that does.
use Rattle.cedar_world.proofs.AgainSound.{again_is_sound as law}
use Rattle.cedar_world.proofs.telling.again_is_sound.Goals as goal

pub returns : goal.returns
returns c =
    law c.linking_binds_the_condition.ensures c.question_answers_are_fair.ensures c.filled_is_meant.ensures c.unbound_answers_are_fair.ensures c.telling_carries.ensures c.residuals_settle.ensures c.unbound_residuals_settle.ensures
    c.linking_is_writing.ensures c.linking_is_writing_early.ensures c.settling_is_one.ensures c.names_dont_matter.ensures c.without_unknowns.ensures c.reauthorizing_is_sharp.ensures c.errors_are_named.ensures
    c.reauthorizing_is_exact.ensures
