-- The line of the answer, then of each policy, and last the names.
use Rattle.std.proofs.Common.{◌++◌, ◌∙◌, ap}
use Rattle.cedar_authoring.proofs.explaining.explain.Goals as goal

pub returns-clause-told : goal.returns-clause-told
returns-clause-told g c =
    let policies = c.in_ok-tell_policies.ensures in
    let names = c.in_ok-tell_names.ensures in
    record {
      response = c.in-Some.response.now;
      responds = c.in-Some.ensures.response;
      lines = policies.0;
      each = policies.1;
      last = names.0;
      names = names.1;
      whole = names.2 ∙ ap (λ t. t ++ names.0) (policies.2 ∙ ap (λ t. t ++ policies.0) c.in_ok-text.ensures);
    }
