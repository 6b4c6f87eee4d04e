-- An id that isn't bound is free.
use Rattle.std.proofs.Common.{ap, sym, ◌∙◌}
use Rattle.cedar_policy_set.specs.Entries.{bound_at}
use Rattle.cedar_policy_set.proofs.Finding.{none_from}
use Rattle.cedar_policy_set.proofs.sets.PolicySet.add_template.Goals as goal

pub bind-requires-clause-free : goal.bind-requires-clause-free
bind-requires-clause-free c = ap (bound_at c.args.self.now) c.id-2.view_is ∙ none_from _ (sym c.is_bound.ensures ∙ c.if-is_bound.false)
