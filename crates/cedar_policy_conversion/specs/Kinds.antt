-- Policies by whether they have slots. (Cedar language reference, "Policies" and "Policy templates".)
use Rattle.std.specs.Prelude.{◌≡◌, ⊤, Option, Some, None, if◌then◌else◌}
use Rattle.either.specs.declared.Either.{Either}
use Rattle.either.specs.declared.Either.TheVariants.{Left, Right}
use Rattle.cedar_language.specs.Uid.{Text}
use Rattle.cedar_grammar.specs.Policy.{Policy, slots}
use Rattle.cedar_grammar.specs.Syntax.{is_template}
use Rattle.cedar_policy_set.specs.Entries.{Entry, static_policy, template}
use Rattle.cedar_policies.specs.StaticPolicies.{static_id, static_syntax}
use Rattle.cedar_policies.specs.Templates.{template_id, listed_slots, syntax_of}
use Rattle.cedar_policies.specs.declared.static_policies.StaticPolicy.{StaticPolicy}
use Rattle.cedar_policies.specs.declared.templates.Template.{Template}

abbrev pub without_slots : Policy → Option Policy
without_slots s = if is_template s then None else Some s

abbrev pub with_slots : Policy → Option Policy
with_slots s = if is_template s then Some s else None

-- what a policy set has of either
abbrev pub entry_made : Either StaticPolicy Template → Entry
entry_made (Left p) = static_policy (static_syntax p)
entry_made (Right t) = template (syntax_of t)

abbrev pub id_made : Either StaticPolicy Template → Text
id_made (Left p) = static_id p
id_made (Right t) = template_id t

-- a template lists the slots that it has
abbrev pub ListsSlots : Either StaticPolicy Template → Type 0
ListsSlots (Left p) = ⊤
ListsSlots (Right t) = listed_slots t ≡ slots (syntax_of t)
