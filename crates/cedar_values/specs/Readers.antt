-- What a value is, where it is of one type.
use Rattle.std.specs.Prelude.{ℤ, Bool, Option, Some, None}
use Rattle.cedar_language.specs.Uid.{Text, Uid}
use Rattle.cedar_language.specs.Tree.{Literal, Boolean, Long, String, Entity}
use Rattle.cedar_language.specs.Value.{Extension, Value, Plain, SetOf, ExtensionOf, Values}

abbrev pub literal_in : Value → Option Literal
literal_in (Plain l) = Some l
literal_in v = None

abbrev pub boolean_in : Value → Option Bool
boolean_in (Plain (Boolean b)) = Some b
boolean_in v = None

abbrev pub long_in : Value → Option ℤ
long_in (Plain (Long n)) = Some n
long_in v = None

abbrev pub text_in : Value → Option Text
text_in (Plain (String s)) = Some s
text_in v = None

abbrev pub uid_in : Value → Option Uid
uid_in (Plain (Entity u)) = Some u
uid_in v = None

-- the members of a set
abbrev pub members_in : Value → Option Values
members_in (SetOf vs) = Some vs
members_in v = None

abbrev pub extension_in : Value → Option Extension
extension_in (ExtensionOf e) = Some e
extension_in v = None
