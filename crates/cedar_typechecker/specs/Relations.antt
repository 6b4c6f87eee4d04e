-- Operands of `in`.
use Rattle.std.specs.Prelude.{Option, Some, None}
use Rattle.cedar_language.specs.Uid.{Name, Uid}
use Rattle.cedar_language.specs.Tree.{Literal, Entity, MakeSet, Tree, Apply, Trees}
use Rattle.cedar_typing.specs.Types.{CedarType, Sets}
use Rattle.cedar_typechecker.specs.Types.{entity_in}

-- the entity that a constant is
abbrev pub uid_in : Option Literal → Option Uid
uid_in (Some (Entity u)) = Some u
uid_in l = None

-- the type of the entities that a value of the type is, or has as elements
abbrev pub reached_in : CedarType → Option Name
reached_in (Sets t) = entity_in t
reached_in t = entity_in t

-- the items of a set that is written
abbrev pub items_in : Tree → Option Trees
items_in (Apply MakeSet xs) = Some xs
items_in t = None
