-- What partial evaluation errs with is what is told.
use Rattle.std.proofs.Common.{inl, subst}
use Rattle.std.specs.Prelude.{⊤}
use Rattle.cedar_extensions.specs.Failures.{failure_of}
use Rattle.cedar_extensions.specs.Giving.{fails_on}
use Rattle.cedar_interpreter.specs.Meeting.{MeetsAt}
use Rattle.cedar_interpreter.proofs.asking.value_of.Goals as goal

pub returns-in-Err-clause-found : goal.returns-in-Err-clause-found
returns-in-Err-clause-found c = λ b h. fails_on (failure_of c.in-Err.error) (λ k e. inl e) (λ d. d) (subst (MeetsAt ⊤ b) c.in-Err.is h)
