-- The least type above items.
use Rattle.std.specs.Prelude.{List, [], ◌∷◌, Option, Some}
use Rattle.cedar_typing.specs.Types.{CedarType, lub_more}

-- above a type, and those before it
abbrev pub lub_onto : List CedarType → CedarType → Option CedarType
lub_onto [] last = Some last
lub_onto (t ∷ ts) last = lub_more t (lub_onto ts last)
