-- What the iterators over a policy set still give.
use Rattle.std.specs.Prelude.{List}
use Rattle.cedar_language.specs.Uid.{Text}
use Rattle.cedar_grammar.specs.Policy as grammar
use Rattle.cedar_policy_set.specs.Entries.{Entries, policies_of, static_policies_of, templates_of, slotted_templates_of, links_of}
use Rattle.cedar_policy_set.specs.Bounds.{seen}
use Rattle.cedar_policy_set.specs.declared.listing.Policies.{Policies}
use Rattle.cedar_policy_set.specs.declared.listing.StaticPolicies.{StaticPolicies}
use Rattle.cedar_policy_set.specs.declared.listing.AllTemplates.{AllTemplates}
use Rattle.cedar_policy_set.specs.declared.listing.Templates.{Templates}
use Rattle.cedar_policy_set.specs.declared.listing.LinkedPolicies.{LinkedPolicies}
use Rattle.cedar_policy_set.specs.declared.listing.IntoPolicies.{IntoPolicies}

abbrev pub policies_left : Policies → Entries
policies_left it = policies_of (seen it.bound)

abbrev pub into_policies_left : IntoPolicies → Entries
into_policies_left it = policies_of (seen it.bound)

abbrev pub static_policies_left : StaticPolicies → Entries
static_policies_left it = static_policies_of (seen it.bound)

abbrev pub all_templates_left : AllTemplates → List (Text × grammar.Policy)
all_templates_left it = templates_of (seen it.bound)

abbrev pub templates_left : Templates → List (Text × grammar.Policy)
templates_left it = slotted_templates_of (seen it.bound)

abbrev pub linked_left : LinkedPolicies → List Text
linked_left it = links_of it.template.now (seen it.bound)
