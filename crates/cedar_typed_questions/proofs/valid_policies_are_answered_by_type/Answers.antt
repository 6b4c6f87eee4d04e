-- An answer reads as what is meant, and what is meant is typed.
use Rattle.cedar_typed_questions.proofs.Early.{valid_policies_are_answered_by_type as law}
use Rattle.cedar_typed_questions.proofs.valid_policies_are_answered_by_type.Goals as goal

pub returns : goal.returns
returns c = law c.validated_policies_err_only_by.ensures c.question_answers_are_fair.ensures c.filled_is_meant.ensures
