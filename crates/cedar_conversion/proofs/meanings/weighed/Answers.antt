-- The refusal tells what it tells, and faults are those that were found again.
use Rattle.std.proofs.Common.{Err, inl, inr, sym, ap, ◌∙◌, subst}
use Rattle.cedar_faults.specs.Telling.{Told}
use Rattle.cedar_conversion.proofs.meanings.weighed.Goals as goal

pub returns-in-Ok-clause-shown : goal.returns-in-Ok-clause-shown
returns-in-Ok-clause-shown g c = record { each = λ k told. inl told }

pub returns-in-Some-clause-shown : goal.returns-in-Some-clause-shown
returns-in-Some-clause-shown g c =
    record { each = λ k told. inr (subst (λ r. Told r k) (sym (c.in-Err.is ∙ ap Err c.in-Some.ensures)) told) }
