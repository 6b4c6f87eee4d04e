-- A copy errs by the same cause.
use Rattle.std.proofs.Common.{◌≡◌, [], ◌∷◌, ◌++◌, map, refl, sym, ap, ◌∙◌}
use Rattle.std.proofs.lemmas.List.{map_push}
use Rattle.cedar_language.specs.Uid.{Text}
use Rattle.cedar_evaluator.specs.Concrete.{cause_seen}
use Rattle.cedar_evaluator.specs.Holding.{error_seen}
use Rattle.cedar_evaluator.specs.declared.errors.AuthorizationError.{AuthorizationError}
use Rattle.cedar_evaluator.specs.declared.errors.AuthorizationError.TheVariants.{PolicyEvaluationError}
use Rattle.cedar_extensions.specs.Causes.{Cause}
use Rattle.cedar_extensions.specs.Failures.{Failure, failure_by}
use Rattle.cedar_authoring.proofs.past.push_error.Goals as goal

abbrev seen : Text × Cause → Text × Failure
seen e = (e.0, failure_by e.1)

by_cause : (e : AuthorizationError) → error_seen e ≡ seen (cause_seen e)
by_cause (PolicyEvaluationError id error) = refl

pub returns : goal.returns
returns c =
    let old = c.args.errors.now.items in
    let copy = c.in_ok-copy.copy in
    let failed = c.args.failed.now in
    let same : error_seen copy ≡ error_seen failed = by_cause copy ∙ (ap seen c.in_ok-copy.ensures.cause ∙ sym (by_cause failed)) in
    ap (map error_seen) c.in_ok-push.ensures.items ∙ (map_push error_seen old copy ∙ ap (λ e. map error_seen old ++ e ∷ []) same)
