-- By early answers, which stay sound whatever is told later.
use Rattle.cedar_asking.proofs.Questions.{questions_are_kept}
use Rattle.cedar_asking.proofs.questions_are_kept.Goals as goal

pub returns : goal.returns
returns c =
    questions_are_kept c.worlds_have_facts.ensures c.linking_is_writing_early.ensures c.linking_binds_the_condition.ensures c.policy_sets_are_worlds.ensures.finds c.answers_are_made.ensures c.early_stays_sound.ensures c.first_answers_are_steady.ensures
