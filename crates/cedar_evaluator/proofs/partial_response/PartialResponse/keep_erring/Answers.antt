-- The error is kept, and then the policy as one that isn't satisfied.
use Rattle.std.proofs.Common.{rules, ◌≡◌, [], ◌∷◌, ◌++◌, map, refl, ◌∙◌, ap}
use Rattle.std.proofs.lemmas.List.{map_push}
use Rattle.std.proofs.lemmas.Result.{on_ok_weaker}
use Rattle.cedar_language.specs.Uid.{Text}
use Rattle.cedar_extensions.specs.Failures.{failure_of}
use Rattle.cedar_policies.specs.Policies.{policy_id}
use Rattle.cedar_evaluator.specs.Evaluations.{Erred}
use Rattle.cedar_evaluator.specs.Holding.{error_seen, holding_in}
use Rattle.cedar_evaluator.specs.declared.errors.AuthorizationError.TheVariants.{PolicyEvaluationError}
use Rattle.cedar_evaluator.proofs.Adding.{adds_erring}
use Rattle.cedar_evaluator.proofs.partial_response.PartialResponse.keep_erring.Goals as goal

pub returns-clause-held : goal.returns-clause-held
returns-clause-held c =
    let p = c.args.policy.now in
    let before = c.args.self.now in
    let told = failure_of c.args.error in
    let own : c.in_ok-id.id ≡ policy_id p = search rules in
    let seen = map error_seen before.errors.items in
    let errors =
    ap (map error_seen) c.in_ok-push.ensures.items
    ∙ map_push error_seen before.errors.items (PolicyEvaluationError c.in_ok-id.id c.args.error)
    ∙ ap (λ (id : Text). seen ++ (id, told) ∷ []) own in
    on_ok_weaker c.keep_false.result
    (adds_erring c.args.with_false p before c.keep_false.new.self told (record before { errors = c.push.new.self })
    (λ i. record (holding_in before) { errors = errors i }))
    (c.keep_false.ensures.held (Erred told) refl)

pub keep_false-requires : goal.keep_false-requires
keep_false-requires c =
    let new = c.requires in
    record {
      satisfied_permits = new.satisfied_permits;
      false_permits = new.false_permits;
      open_permits = new.open_permits;
      satisfied_forbids = new.satisfied_forbids;
      false_forbids = new.false_forbids;
      open_forbids = new.open_forbids;
    }
