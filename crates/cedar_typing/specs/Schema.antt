-- A schema, as typing sees it, and the environments in which a policy is typed.
-- (Cedar language reference, "Schema".)
use Rattle.std.specs.Prelude.{◌≡◌, Bool, true, false, List, [], ◌∷◌, Option, codes}
use Rattle.cedar_language.specs.Uid.{Text, Name, Uid}
use Rattle.cedar_language.specs.Tree.{SlotId, ValueType}
use Rattle.cedar_language.specs.Order.{same_text}
use Rattle.cedar_typing.specs.Types.{CedarType, Fields}

-- an entity type: the attributes of its entities, and the type of their tags, where they have any
pub record EntityShape : Type 0 where
  pub attributes : Fields
  pub tags : Option CedarType

-- an extension function: its arguments and its result; where it makes a value of one text alone, of which texts
pub record Signature : Type 0 where
  pub arguments : List ValueType
  pub result : CedarType
  pub constructs : Option (Text → Bool)

pub record Schema : Type 0 where
  -- the entity types; those of actions are among them, without attributes and tags
  pub entity : Name → Option EntityShape
  -- the entities that a policy may name: those of declared types, of an enumeration those listed, and the declared actions
  pub may_name : Uid → Bool
  -- an entity of the first type may have ancestors of the second
  pub may_reach : Name → Name → Bool
  -- the declared actions
  pub is_action : Uid → Bool
  -- the second is an ancestor of the first
  pub action_reaches : Uid → Uid → Bool
  -- the action takes such a principal and such a resource
  pub applies : Uid → Name → Name → Bool
  -- the attributes of a context of the action
  pub context : Uid → Fields
  -- the extension functions
  pub signature : Name → Option Signature

-- actions are of types whose last word is `Action`
abbrev pub is_action_type : Name → Bool
is_action_type [] = false
is_action_type (s ∷ []) = same_text s (codes "Action")
is_action_type (s ∷ t ∷ ss) = is_action_type (t ∷ ss)

-- one action with the types of principal and resource, and the types of what slots are bound to
pub record Environment : Type 0 where
  pub schema : Schema
  pub principal : Name
  pub action : Uid
  pub resource : Name
  pub slot : SlotId → Option Name

-- which types the entity bound to a slot may have there, or that none is bound: of a policy without slots, that none is
abbrev pub SlotTypes : Type 0
SlotTypes = SlotId → Option Name → Bool

-- an environment of a schema, for a policy with such slots
pub record IsEnvironment (schema : Schema) (may : SlotTypes) (e : Environment) : Type 0 where
  pub of : e.schema ≡ schema
  pub is_action : schema.is_action e.action ≡ true
  pub applies : schema.applies e.action e.principal e.resource ≡ true
  pub slots : (s : SlotId) → may s (e.slot s) ≡ true
