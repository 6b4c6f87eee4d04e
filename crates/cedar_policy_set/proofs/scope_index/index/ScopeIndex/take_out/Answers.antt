-- Each place stands where the closed row has it (Growing).
use Rattle.cedar_policy_set.proofs.Growing.{taken_within}
use Rattle.cedar_policy_set.proofs.scope_index.index.ScopeIndex.take_out.Goals as goal

pub returns-in-Ok-clause-kept : goal.returns-in-Ok-clause-kept
returns-in-Ok-clause-kept c = λ p b s below found.
    taken_within c.args.self.now _ c.args.position p b s (record {
      others = λ q h. h;
      principals = λ u q h. h;
      actions = λ u q h. h;
      resources = λ u q h. h;
      paired_principals = λ u q h. h;
      paired_resources = λ u q h. h;
    }) c.in-Ok.ensures.closed found
