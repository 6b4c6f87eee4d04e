-- The link that a body states, of a template of a policy set. (Cedar language reference, "Policy templates".)
use Rattle.std.specs.Prelude.{◌≡◌, ⊤, true, false, None, Some, IsSome, Result, Ok, Err}
use Rattle.std.specs.declared.alloc.Global.{Global}
use Rattle.std.specs.declared.rc.Rc.{Rc}
use Rattle.cedar_language.specs.Uid.{Text}
use Rattle.cedar_world.specs.Bodies.{LinkBody}
use Rattle.cedar_grammar.specs.Bindings.{binds_exactly}
use Rattle.cedar_grammar.specs.Syntax.{PolicySyntax}
use Rattle.cedar_policies.specs.Templates.{template_id, syntax_of}
use Rattle.cedar_policies.specs.declared.templates.Template.{Template}
use Rattle.cedar_policies.specs.Policies.{policy_id}
use Rattle.cedar_policies.specs.declared.policies.Policy.{Policy}
use Rattle.cedar_policy_set.specs.Entries.{template, link, Entries, bound_at}
use Rattle.cedar_policy_set.specs.Bounds.{policy_entry}
use Rattle.cedar_policy_set.specs.Refused.{is_template_at}
use Rattle.cedar_replies.specs.declared.refusal.Refusal.{Refusal}
use Rattle.cedar_replies.specs.declared.refusal.Refusal.TheVariants.{NoSuchTemplate, NotTemplate, Arity, Memory}

-- the id is bound, and not to a template
abbrev pub IsNoTemplate : Entries → Text → Type 0
IsNoTemplate es id = IsSome (bound_at es id) × (is_template_at (bound_at es id) ≡ false)

-- the template that an id is bound to, or why there is none
abbrev pub FindsTemplate : Entries → Text → Result (Rc Template Global) Refusal → Type 0
FindsTemplate es id (Ok t) = (template_id t.value ≡ id) × (bound_at es id ≡ Some (template (syntax_of t.value)))
FindsTemplate es id (Err NoSuchTemplate) = bound_at es id ≡ None
FindsTemplate es id (Err NotTemplate) = IsNoTemplate es id
FindsTemplate es id (Err Memory) = ⊤
FindsTemplate es id (Err r) = ⊥

-- the link that the body states
pub record IsLinkOf (es : Entries) (b : LinkBody) (p : Policy) : Type 0 where
  pub syntax : PolicySyntax
  pub names : bound_at es b.template ≡ Some (template syntax)
  pub fits : binds_exactly b.bindings syntax ≡ true
  pub id : policy_id p ≡ b.id
  pub entry : policy_entry p ≡ link b.template syntax b.bindings

-- the entities aren't for exactly the slots of the template
abbrev pub IsMisfit : Entries → LinkBody → Type 0
IsMisfit es b = (s : PolicySyntax) × (bound_at es b.template ≡ Some (template s)) × (binds_exactly b.bindings s ≡ false)

-- the link that the body states, or why there is none
abbrev pub MakesLink : Entries → LinkBody → Result Policy Refusal → Type 0
MakesLink es b (Ok p) = IsLinkOf es b p
MakesLink es b (Err NoSuchTemplate) = bound_at es b.template ≡ None
MakesLink es b (Err NotTemplate) = IsNoTemplate es b.template
MakesLink es b (Err Arity) = IsMisfit es b
MakesLink es b (Err Memory) = ⊤
MakesLink es b (Err r) = ⊥
