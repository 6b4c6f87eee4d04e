-- A value that is no Boolean has another type than the one that is asked for.
use Rattle.std.proofs.Common.{◌≡◌, ◌∙◌, subst}
use Rattle.std.specs.Prelude.{⊤}
use Rattle.cedar_extensions.specs.Failures.{failure_of}
use Rattle.cedar_restricted.specs.PartialValues.{partial_of}
use Rattle.cedar_restricted.specs.declared.partial_values.PartialValue.{PartialValue}
use Rattle.cedar_interpreter.specs.Meeting.{MeetsAt, part_answer}
use Rattle.cedar_interpreter.proofs.Tested.{no_boolean}
use Rattle.cedar_interpreter.proofs.lazy.test_answer.Goals as goal

pub returns-clause-found : goal.returns-clause-found
returns-clause-found c =
    λ b met.
    let given = subst (λ (p : PartialValue). b ≡ part_answer (partial_of p)) c.in-Ok-Value.field-0-is (subst (MeetsAt ⊤ b) c.in-Ok-Value.is met) in
    no_boolean c.in-Ok-Value.value b (failure_of c.in_ok-type_error_single-in-None.field-0) (c.as_bool.ensures ∙ c.in-None.is) given c.in_ok-type_error_single-in-None.ensures.kind
