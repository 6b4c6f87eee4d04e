-- Where the index covers the set, each policy that it finds is among what was found, or out of scope.
use Rattle.std.proofs.Common.{◌≡◌, ◌≤◌, length, arith, Option, Some, None, Bor, refl, ap, subst, ◌∙◌}
use Rattle.std.specs.Prelude.{IfSome}
use Rattle.std.specs.Option.{option_copied, option_and}
use Rattle.cedar_language.specs.Tree.{Principal}
use Rattle.cedar_evaluator.specs.Asking.{variable_asked}
use Rattle.cedar_policy_set.specs.ScopeFinding.{covered, stands_at}
use Rattle.cedar_evaluator.specs.Candidates.{HasFound}
use Rattle.cedar_evaluator.specs.Scopes.{IsGivenAs}
use Rattle.cedar_evaluator.proofs.OutOfScope.{found_or_out}
use Rattle.cedar_evaluator.proofs.candidates.candidates.Goals as goal

copied_and : {X Y : Type 0} (o : Option (Bor X)) (q : Option (Bor Y)) → option_copied (option_and o q) ≡ option_and (option_copied o) (option_copied q)
copied_and None q = refl
copied_and (Some x) q = refl

pub returns-in-Some-2-clause-rising : goal.returns-in-Some-2-clause-rising
returns-in-Some-2-clause-rising c = c.in_order.ensures.rising

pub returns-in-Some-2-clause-whole : goal.returns-in-Some-2-clause-whole
returns-in-Some-2-clause-whole c = λ i store scopes.
    let p = c.in-Some.principal in
    let given = c.args.scopes.now in
    let es = c.args.policies.now in
    let index = c.scopes-index.result.now in
    let ps = c.in-Some-2.found.items in
    let principal = subst (IsGivenAs store (variable_asked i.request Principal)) c.in-Some.is scopes.principal in
    let action = option_copied c.as_ref-action.result in
    let resource = option_copied c.and-resource.result in
    let action_is = c.as_ref-action.ensures.value in
    let resource_is : resource ≡ option_and given.action given.resource =
    ap option_copied c.and-resource.ensures
    ∙ copied_and c.as_ref-action.result c.as_ref.result
    ∙ ap (option_and action) c.as_ref.ensures.value
    ∙ ap (λ o. option_and o given.resource) action_is in
    let told : HasFound index p action resource ps = subst (λ o. IfSome o (λ positions. HasFound index p action resource positions.items)) c.in-Some-2.is c.in_ok-found.ensures in
    let found = subst (λ a. HasFound index p a (option_and given.action given.resource) ps) action_is (subst (λ r. HasFound index p action r ps) resource_is told) in
    let whole : length es ≤ covered index = omega (arith, c.if-len.false, c.len.ensures, c.len-len.ensures.len) in
    record {
      rising = c.in_order.ensures.rising;
      whole = found_or_out i store p given.action given.resource principal scopes.action scopes.resource index es ps c.in_order.result.items found c.scopes-index.ensures whole (λ t h. c.in_order.ensures.kept (stands_at index t) (c.positions.ensures t h));
    }
