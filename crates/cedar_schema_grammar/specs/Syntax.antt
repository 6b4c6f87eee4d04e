-- What a schema's text says, before its names are looked up. (Cedar language reference, "Schema".)
use Rattle.std.specs.Prelude.{List, Option}
use Rattle.cedar_language.specs.Uid.{Text, Name}
use Rattle.cedar_typing.specs.Types.{Presence}

-- a type as it is written
mutual
  pub data TypeSyntax : Type 0 where
    named : Name → TypeSyntax
    a_set : TypeSyntax → TypeSyntax
    a_record : AttributesSyntax → TypeSyntax

  -- the attributes of a record, in the order of the text
  pub data AttributesSyntax : Type 0 where
    no_attributes : AttributesSyntax
    an_attribute : Text → Presence → TypeSyntax → AttributesSyntax → AttributesSyntax

-- entity types of one declaration: what they may be within, their attributes, and the type of their tags, if they have any
pub record EntitySyntax : Type 0 where
  pub names : List Text
  pub parents : List Name
  pub attributes : AttributesSyntax
  pub tags : Option TypeSyntax

-- an action, as it is referred to: its name, and the path of its type, where that is written
pub record ActionRef : Type 0 where
  pub type_name : Option Name
  pub name : Text

-- what an action applies to, entry by entry
pub data AppliesEntry : Type 0 where
  principals : List Name → AppliesEntry
  resources : List Name → AppliesEntry
  context : TypeSyntax → AppliesEntry

-- actions of one declaration: the groups that they are in, and what they apply to; groups alone apply to nothing
pub record ActionSyntax : Type 0 where
  pub names : List Text
  pub groups : List ActionRef
  pub applies_to : Option (List AppliesEntry)

pub data Declaration : Type 0 where
  entities : EntitySyntax → Declaration
  -- entity types, and the ids of all their entities
  enumeration : List Text → List Text → Declaration
  actions : ActionSyntax → Declaration
  common_type : Text → TypeSyntax → Declaration

-- the declarations of a block; the empty path is that of a declaration which stands in no namespace
pub record Namespace : Type 0 where
  pub path : Name
  pub declarations : List Declaration

abbrev pub SchemaSyntax : Type 0
SchemaSyntax = List Namespace
