-- Two templates are one entry exactly where their syntax is the same.
use Rattle.std.proofs.Common.{ap, sym, refl, ◌∙◌}
use Rattle.cedar_policies.specs.Templates.{syntax_of}
use Rattle.cedar_policy_set.specs.Entries.{template}
use Rattle.cedar_policy_set.specs.Bounds.{entry_of}
use Rattle.cedar_policy_set.specs.EntryNodes.{same_entry}
use Rattle.cedar_policy_set.proofs.Sameness.{same_templates, decides_between}
use Rattle.cedar_policy_set.proofs.bounds.Bound.is_template.Goals as goal

pub returns-in-Template : goal.returns-in-Template
returns-in-Template c =
    same_templates c.has_same_syntax.result _ _ (decides_between c.has_same_syntax.ensures (ap syntax_of c.deref.ensures) refl)
    ∙ ap (λ e. same_entry e (template (syntax_of c.args.template.now))) (ap entry_of (sym c.in-Template.is ∙ c.kind.ensures))
