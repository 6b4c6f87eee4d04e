-- Each test was shown to decide sameness where it is defined.
use Rattle.cedar_policy_parts.specs.SameScopes.{targets_decide, constraints_decide, actions_decide, bindings_decide}
use Rattle.cedar_policy_parts.proofs.scope_laws.equality_is_sameness.Goals as goal

pub returns : goal.returns
returns c = record {
  references = targets_decide;
  constraints = constraints_decide;
  actions = actions_decide;
  bindings = bindings_decide;
}
