-- One error more stands behind those before it.
use Rattle.std.proofs.Common.{◌≡◌, ◌≤◌, List, [], ◌∷◌, ◌++◌, ◌+◌, length, map, take, refl, sym, ap, subst, ◌∙◌, append_assoc, arith}
use Rattle.std.proofs.lemmas.List.{append-nil, map_push, take_all, take_more}
use Rattle.cedar_evaluator.specs.Holding.{error_seen}
use Rattle.cedar_evaluator.specs.declared.errors.AuthorizationError.{AuthorizationError}
use Rattle.cedar_evaluator.specs.declared.partial_response.PartialResponse.{PartialResponse}
use Rattle.cedar_authoring.proofs.past.with_errors.Goals as goal

pub loop-failed-init : goal.loop-failed-init
loop-failed-init c = record { groups = refl; errors = sym (append-nil (map error_seen c.args.response.errors.items)) }

pub loop-failed-preserved : goal.loop-failed-preserved
loop-failed-preserved c =
    let all : List AuthorizationError = c.args.errors.now in
    let i = c.loop-failed.failed-index in
    let failed = c.failed-item.result in
    let own = map error_seen c.args.response.errors.items in
    let pushed = c.push_error.new.errors in
    let taken : take i all ++ failed ∷ [] ≡ take (i + 1) all = ap (λ y. take i all ++ y ∷ []) c.failed-item.is ∙ sym (take_more all i failed (omega arith)) in
    let seen = sym (map_push error_seen (take i all) failed) ∙ ap (map error_seen) taken in
    record {
      groups = ap (λ (r : PartialResponse). record r { errors = pushed }) c.loop-failed.invariant.groups;
      errors = c.in_ok-push_error.ensures ∙ (ap (λ l. l ++ error_seen failed ∷ []) c.loop-failed.invariant.errors
          ∙ (append_assoc own (map error_seen (take i all)) (error_seen failed ∷ []) ∙ ap (λ l. own ++ l) seen));
    }

pub returns-clause-errors : goal.returns-clause-errors
returns-clause-errors c =
    let all : List AuthorizationError = c.args.errors.now in
    let past : length all ≤ c.loop-failed.failed-index = omega arith in
    let own = map error_seen c.args.response.errors.items in
    c.loop-failed.invariant.errors ∙ ap (λ l. own ++ map error_seen l) (take_all c.loop-failed.failed-index all past)
