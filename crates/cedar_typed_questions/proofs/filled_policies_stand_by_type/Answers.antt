-- A filling that conforms makes a request of an environment.
use Rattle.cedar_typed_questions.proofs.Filled.{filled_policies_stand, filled_impossibles_are_never_satisfied}
use Rattle.cedar_typed_questions.proofs.filled_policies_stand_by_type.Goals as goal

pub returns : goal.returns
returns c = record {
  stand = filled_policies_stand c.validated_policies_err_only_by.ensures;
  impossible = filled_impossibles_are_never_satisfied c.types_are_sound.ensures;
}
