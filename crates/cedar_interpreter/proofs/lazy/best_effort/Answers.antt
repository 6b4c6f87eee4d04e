-- A found operand is written, and one that errs stands as it was; the limit and want of memory are handed on.
use Rattle.std.proofs.Common.{◌∙◌, ap, sym, subst}
use Rattle.std.specs.Prelude.{⊤}
use Rattle.cedar_partial_evaluation.specs.Partial.{best_effort as effort}
use Rattle.cedar_trees.specs.Bare.{bare}
use Rattle.cedar_trees.specs.declared.expr.Expr.{Expr}
use Rattle.cedar_extensions.specs.Failures.{failure_of}
use Rattle.cedar_restricted.specs.PartialValues.{partial_of}
use Rattle.cedar_interpreter.specs.Meeting.{MeetsAt}
use Rattle.cedar_interpreter.proofs.Steps.{effort_found, effort_kept}
use Rattle.cedar_interpreter.proofs.lazy.best_effort.Goals as goal

pub returns-in_ok-new-in-Ok-clause-found : goal.returns-in_ok-new-in-Ok-clause-found
returns-in_ok-new-in-Ok-clause-found c =
    λ facts y h.
    let original = bare c.args.original.now.value in
    ap (λ (e : Expr (Unit {0})). bare e) c.in_ok-new-in-Ok.ensures.ok
    ∙ effort_found facts (partial_of c.in-Ok.found) (bare c.in_ok-from_in-in-Ok.field-0) original c.in_ok-from_in-in-Ok.ensures
    ∙ ap (λ a. effort facts a original) (sym (subst (MeetsAt ⊤ y) c.in-Ok.is h))

pub returns-in_ok-clone-in-Err-clause-found : goal.returns-in_ok-clone-in-Err-clause-found
returns-in_ok-clone-in-Err-clause-found c =
    λ facts y h.
    ap (λ (e : Expr (Unit {0})). bare e) c.in_ok-clone-in-Err.ensures.cases
    ∙ sym (effort_kept facts (failure_of c.in-Err.error) y (bare c.args.original.now.value) (sym c.passes_up.ensures ∙ c.if-passes_up.false) (subst (MeetsAt ⊤ y) c.in-Err.is h))
