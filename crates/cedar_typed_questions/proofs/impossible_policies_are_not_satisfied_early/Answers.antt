-- An answer reads as what is meant, which is never true.
use Rattle.cedar_typed_questions.proofs.Early.{impossible_policies_are_not_satisfied_early as law}
use Rattle.cedar_typed_questions.proofs.impossible_policies_are_not_satisfied_early.Goals as goal

pub returns : goal.returns
returns c = law c.filled_policies_stand_by_type.ensures.impossible c.question_answers_are_fair.ensures c.filled_is_meant.ensures
