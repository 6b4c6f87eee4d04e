-- What was found for one part stays while the next ones are looked up.
use Rattle.std.proofs.Common.{◌++◌, ap, ◌∙◌}
use Rattle.cedar_policy_set.specs.ScopeFinding.{positions_at, is_listed}
use Rattle.cedar_evaluator.proofs.candidates.found_by.Goals as goal

pub returns-then-branch-4 : goal.returns-then-branch-4
returns-then-branch-4 c =
    let first = c.in_ok-add_found.ensures in
    let second = c.in_ok-add_known.ensures in
    let third = c.in_ok-add_known-2.ensures in
    let fourth = c.in_ok-add_paired.ensures in
    let begun = c.in_ok-extend_from_slice.ensures.items ∙ ap (λ ps. ps ++ c.others.result.now) c.new-found.ensures.items ∙ c.others.ensures in
    record {
      others = λ p h. fourth.kept p (third.kept p (second.kept p (first.kept p (ap (λ ps. is_listed ps p) begun ∙ h))));
      principals = λ u may p h. fourth.kept p (third.kept p (second.kept p (first.added c.if-branch.true u may p (ap (λ l. is_listed (positions_at l u) p) c.principals.ensures ∙ h))));
      actions = λ u may p h. fourth.kept p (third.kept p (second.added c.if-branch-2.true u may p (ap (λ l. is_listed (positions_at l u) p) c.actions.ensures ∙ h)));
      resources = λ u may p h. fourth.kept p (third.added c.if-branch-3.true u may p (ap (λ l. is_listed (positions_at l u) p) c.resources.ensures ∙ h));
      pairs = fourth.added c.if-branch-4.true;
    }
