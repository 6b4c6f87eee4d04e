-- What typing finds of an expression: its type, and the capabilities that it gives where it is true; or a fault.
use Rattle.std.specs.Prelude.{Bool, true, false, List, []}
use Rattle.cedar_typing.specs.Types.{BoolType, AlwaysTrue, AlwaysFalse, Unsure, CedarType, Booleans}
use Rattle.cedar_typing.specs.Capabilities.{Capabilities}
use Rattle.cedar_typing.specs.Faults.{TypingFault}

-- what is found of one expression
pub data Typing : Type 0 where
  HasType : CedarType → Capabilities → Typing
  Faulty : TypingFault → Typing

-- what is found of operands: a type of each, or the first fault
pub data Typings : Type 0 where
  HaveTypes : List CedarType → Typings
  OneFaulty : TypingFault → Typings

abbrev pub bool_type_of : Bool → BoolType
bool_type_of true = AlwaysTrue
bool_type_of false = AlwaysFalse

-- a type, and no capability
abbrev pub plainly : CedarType → Typing
plainly t = HasType t []

-- a Boolean that is known, and one that isn't
abbrev pub known : Bool → Typing
known b = plainly (Booleans (bool_type_of b))

abbrev pub unsure : Typing
unsure = plainly (Booleans Unsure)
