-- What a policy set holds at an id, as contracts see it.
use Rattle.std.specs.Prelude.{◌≡◌, ⊤, List, map, Option, Some, None}
use Rattle.std.specs.List.{AllByRecursion}
use Rattle.std.specs.Map.{keys_of, values_of}
use Rattle.cedar_language.specs.Uid.{Text}
use Rattle.cedar_grammar.specs.Policy as grammar
use Rattle.cedar_grammar.specs.Bindings.{Bindings}
use Rattle.cedar_policies.specs.Templates.{template_id, syntax_of, listed_slots}
use Rattle.cedar_policies.specs.Policies.{policy_template, policy_syntax, link_of, bindings_of, policy_id}
use Rattle.cedar_policies.specs.declared.templates.Template.{Template as ATemplate}
use Rattle.cedar_policies.specs.declared.policies.Policy.{Policy as APolicy}
use Rattle.cedar_policy_set.specs.Entries.{Entry, static_policy, template, link, Entries, IsWhole}
use Rattle.cedar_policy_set.specs.declared.bounds.BoundKind.{BoundKind}
use Rattle.cedar_policy_set.specs.declared.bounds.BoundKind.TheVariants.{Policy, Template}

abbrev pub entry_by : Option Text → Text → grammar.Policy → Bindings → Entry
entry_by None t s b = static_policy s
entry_by (Some id) t s b = link t s b

-- a link as an entry
abbrev pub link_entry : APolicy → Entry
link_entry p = link (template_id (policy_template p)) (policy_syntax p) (bindings_of p)

-- a policy as an entry
abbrev pub policy_entry : APolicy → Entry
policy_entry p = entry_by (link_of p) (template_id (policy_template p)) (policy_syntax p) (bindings_of p)

abbrev pub entry_of : BoundKind → Entry
entry_of (Policy p) = policy_entry p
entry_of (Template t) = template (syntax_of t.value)

abbrev pub bound_id : BoundKind → Text
bound_id (Policy p) = policy_id p
bound_id (Template t) = template_id t.value

abbrev pub entries_of : List (Text × BoundKind) → Entries
entries_of es = map (λ e. (e.0, entry_of e.1)) es

abbrev pub template_seen : ATemplate → Text × grammar.Policy
template_seen t = (template_id t, syntax_of t)

abbrev pub policy_seen : APolicy → Text × Entry
policy_seen p = (policy_id p, policy_entry p)

-- what is held, each under its own id
abbrev pub seen : List BoundKind → Entries
seen bs = map (λ b. (bound_id b, entry_of b)) bs

-- each stands under its own id
abbrev pub IsNamed : List (Text × BoundKind) → Type 0
IsNamed es = map (λ e. bound_id e.1) es ≡ keys_of es

-- a template of a set lists its slots, also where it was made of a clause
abbrev pub ListsSlots : BoundKind → Type 0
ListsSlots (Policy p) = ⊤
ListsSlots (Template t) = listed_slots t.value ≡ grammar.slots (syntax_of t.value)

abbrev pub ListTheirSlots : List BoundKind → Type 0
ListTheirSlots bs = AllByRecursion ListsSlots bs

-- a copy: under the same id, of the same entry, and of a template that lists its slots where that one does
pub record IsCopy (b c : BoundKind) : Type 0 where
  pub id : bound_id c ≡ bound_id b
  pub entry : entry_of c ≡ entry_of b
  pub listed : ListsSlots b → ListsSlots c

-- each stands under its own id, each template lists its slots, and the set is whole
pub record IsSound (es : List (Text × BoundKind)) : Type 0 where
  pub named : IsNamed es
  pub listed : ListTheirSlots (values_of es)
  pub whole : IsWhole (entries_of es)
