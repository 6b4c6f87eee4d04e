-- An id that isn't bound is free.
use Rattle.std.proofs.Common.{sym, ◌∙◌}
use Rattle.cedar_policy_set.proofs.Finding.{none_from}
use Rattle.cedar_policy_set.proofs.sets.PolicySet.link.Goals as goal

pub bind-requires-clause-free : goal.bind-requires-clause-free
bind-requires-clause-free c = none_from _ (sym c.is_bound.ensures ∙ c.if-is_bound.false)
