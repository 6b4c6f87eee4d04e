-- What is settled is meant, and what is meant is typed.
use Rattle.cedar_typed_questions.proofs.Early.{valid_policies_settle_by_type as law}
use Rattle.cedar_typed_questions.proofs.valid_policies_settle_by_type.Goals as goal

pub returns : goal.returns
returns c = law c.validated_policies_err_only_by.ensures c.settled_is_meant.ensures c.filled_is_meant.ensures
