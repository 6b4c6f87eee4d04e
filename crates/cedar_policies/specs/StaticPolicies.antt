-- Policies without slots, as the grammar has them.
use Rattle.std.specs.Prelude.{◌≡◌, ⊤, List, [], ◌∷◌, Option, Result, Ok, Err}
use Rattle.cedar_language.specs.Uid.{Text}
use Rattle.cedar_language.specs.Tree.{SlotId}
use Rattle.cedar_grammar.specs.Policy.{Policy, slots}
use Rattle.cedar_names.specs.declared.places.Loc.{Loc}
use Rattle.cedar_policy_parts.specs.declared.errors.UnexpectedSlotError.{UnexpectedSlotError}
use Rattle.cedar_policy_parts.specs.declared.errors.UnexpectedSlotError.TheVariants.{FoundSlot, Memory}
use Rattle.cedar_policies.specs.Bodies.{body_id, body_place, body_syntax}
use Rattle.cedar_policies.specs.Templates.{template_id, syntax_of}
use Rattle.cedar_policies.specs.declared.templates.Template.{Template}
use Rattle.cedar_policies.specs.declared.static_policies.StaticPolicy.{StaticPolicy}

abbrev pub static_id : StaticPolicy → Text
static_id p = body_id p.body

-- where it was read, if it was
abbrev pub static_place : StaticPolicy → Option Loc
static_place p = body_place p.body

-- its syntax, without places
abbrev pub static_syntax : StaticPolicy → Policy
static_syntax p = body_syntax p.body

-- the first of the slots is this one
abbrev pub IsFirstSlot : List SlotId → SlotId → Type 0
IsFirstSlot [] s = ⊥
IsFirstSlot (r ∷ rs) s = r ≡ s

-- the policy of this id and syntax, where it has no slot; refused for its first slot otherwise, or for memory
abbrev pub MakesStatic : Text → Policy → Result StaticPolicy UnexpectedSlotError → Type 0
MakesStatic id syntax (Ok p) = (static_id p ≡ id) × (static_syntax p ≡ syntax) × (slots syntax ≡ [])
MakesStatic id syntax (Err (FoundSlot s)) = IsFirstSlot (slots syntax) s.id
MakesStatic id syntax (Err (Memory e)) = ⊤

-- the same, of a template, without any need of memory
abbrev pub TakesStatic : Template → Result StaticPolicy UnexpectedSlotError → Type 0
TakesStatic t (Ok p) = (static_id p ≡ template_id t) × (static_syntax p ≡ syntax_of t) × (slots (syntax_of t) ≡ [])
TakesStatic t (Err (FoundSlot s)) = IsFirstSlot (slots (syntax_of t)) s.id
TakesStatic t (Err (Memory e)) = ⊥
