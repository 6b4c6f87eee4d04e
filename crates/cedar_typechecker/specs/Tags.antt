-- Operands of `getTag` and `hasTag`.
use Rattle.std.specs.Prelude.{Option, None, cond}
use Rattle.cedar_language.specs.Uid.{Name}
use Rattle.cedar_typing.specs.Types.{CedarType}
use Rattle.cedar_typechecker.specs.Types.{is_string, entity_in}

-- the type of the entities whose tags are read, where the key is a string
abbrev pub tagged_in : CedarType → CedarType → Option Name
tagged_in t k = cond (is_string k) (entity_in t) None
