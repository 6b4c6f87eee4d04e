-- Two templates are one entry exactly where their syntax is the same.
use Rattle.std.proofs.Common.{ap, sym, ◌∙◌}
use Rattle.cedar_policies.specs.Templates.{syntax_of}
use Rattle.cedar_policy_set.specs.Bounds.{entry_of}
use Rattle.cedar_policy_set.specs.EntryNodes.{same_entry}
use Rattle.cedar_policy_set.proofs.Sameness.{same_templates, decides_between}
use Rattle.cedar_policy_set.proofs.bounds.Bound.is_same.Goals as goal

pub returns-in-Template-Template : goal.returns-in-Template-Template
returns-in-Template-Template c =
    same_templates c.has_same_syntax.result _ _ (decides_between c.has_same_syntax.ensures (ap syntax_of c.deref.ensures) (ap syntax_of c.deref-in-Template-Template.ensures))
    ∙ (λ i. same_entry (entry_of ((sym c.in-Template-Template.is-0 ∙ c.kind.ensures) i)) (entry_of ((sym c.in-Template-Template.is-1 ∙ c.kind-2.ensures) i)))
