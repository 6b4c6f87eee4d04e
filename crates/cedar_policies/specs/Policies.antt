-- Policies, as the grammar has them: static ones, and links of templates.
use Rattle.std.specs.Prelude.{◌≡◌, ⊤, [], Option, Some, None, unwrap_or, Result, Ok, Err}
use Rattle.cedar_language.specs.Uid.{Text}
use Rattle.cedar_grammar.specs.Policy as grammar
use Rattle.cedar_grammar.specs.Bindings.{Bindings, linked}
use Rattle.cedar_policy_parts.specs.Bindings.{unbound}
use Rattle.cedar_policy_parts.specs.declared.errors.UnexpectedSlotError.{UnexpectedSlotError}
use Rattle.cedar_policy_parts.specs.declared.errors.UnexpectedSlotError.TheVariants.{FoundSlot, Memory}
use Rattle.cedar_policies.specs.Templates.{template_id, syntax_of, listed_slots}
use Rattle.cedar_policies.specs.StaticPolicies.{IsFirstSlot}
use Rattle.cedar_policies.specs.declared.templates.Template.{Template}
use Rattle.cedar_policies.specs.declared.policies.Policy.{Policy}

-- the template that it is a link of; a static policy is its own
abbrev pub policy_template : Policy → Template
policy_template p = p.template.value

-- the syntax of its template, without places
abbrev pub policy_syntax : Policy → grammar.Policy
policy_syntax p = syntax_of (policy_template p)

-- the id of the link; none of a static policy
abbrev pub link_of : Policy → Option Text
link_of p = p.link

-- the entities that the slots are bound to
abbrev pub bindings_of : Policy → Bindings
bindings_of p = p.values

abbrev pub policy_id : Policy → Text
policy_id p = unwrap_or (link_of p) (template_id (policy_template p))

-- its syntax, as if it had been written with the bound entities
abbrev pub written : Policy → grammar.Policy
written p = linked (bindings_of p) (policy_syntax p)

-- the static policy of this id and syntax
pub record IsOwn (own_id : Text) (own_syntax : grammar.Policy) (p : Policy) : Type 0 where
  pub id : policy_id p ≡ own_id
  pub syntax : policy_syntax p ≡ own_syntax
  pub link : link_of p ≡ None
  pub bindings : bindings_of p ≡ unbound

-- the link of a template, with just its slots bound
pub record IsLink (t : Template) (new_id : Text) (b : Bindings) (p : Policy) : Type 0 where
  pub template : policy_template p ≡ t
  pub link : link_of p ≡ Some new_id
  pub bindings : bindings_of p ≡ b

-- a copy: of the same template, under the same id, with the same entities
pub record IsCopy (p q : Policy) : Type 0 where
  pub template : policy_template q ≡ policy_template p
  pub link : link_of q ≡ link_of p
  pub bindings : bindings_of q ≡ bindings_of p

-- the template as a policy of its own, where it lists no slot; refused for the first that it lists otherwise, or for memory
abbrev pub TakesOwn : Template → Result Policy UnexpectedSlotError → Type 0
TakesOwn t (Ok p) = IsOwn (template_id t) (syntax_of t) p × (policy_template p ≡ t) × (listed_slots t ≡ [])
TakesOwn t (Err (FoundSlot s)) = IsFirstSlot (listed_slots t) s.id
TakesOwn t (Err (Memory e)) = ⊤

-- a link, which has an id of its own, keeps its template
abbrev pub KeepsTemplate : Option Text → Template → Template → Type 0
KeepsTemplate None t u = ⊤
KeepsTemplate (Some id) t u = u ≡ t
