-- What the slots of a template are bound to, and what a link of it is. (Cedar language reference, "Policy templates".)
use Rattle.std.specs.Prelude.{Bool, true, false, not, ◌&&◌, Option, is_some}
use Rattle.cedar_language.specs.Uid.{Uid}
use Rattle.cedar_language.specs.Tree.{PrincipalSlot, ResourceSlot}
use Rattle.cedar_grammar.specs.Policy.{Slots, bound}
use Rattle.cedar_grammar.specs.Syntax.{PolicySyntax, has_slot}

-- an entity for each slot that is bound
pub record Bindings : Type 0 where
  pub principal : Option Uid
  pub resource : Option Uid

abbrev pub binding_of : Bindings → Slots
binding_of b PrincipalSlot = b.principal
binding_of b ResourceSlot = b.resource

-- a link, as if it had been written with its entities
abbrev pub linked : Bindings → PolicySyntax → PolicySyntax
linked b s = bound (binding_of b) s

-- the slots given are exactly the template's
abbrev pub same_flag : Bool → Bool → Bool
same_flag true b = b
same_flag false b = not b

abbrev pub binds_exactly : Bindings → PolicySyntax → Bool
binds_exactly b s = same_flag (is_some b.principal) (has_slot s PrincipalSlot) && same_flag (is_some b.resource) (has_slot s ResourceSlot)
